-- Phrases of a text, read from a place on into cells.
use Rattle.std.specs.Prelude.{◌≡◌, ℕ, ◌+◌, List, [], length, drop, Some, Result, MatchResult, slice_get, slice_index, slice_set, ◌≢◌}
use Rattle.std.proofs.lemmas.List.Edits.{sets}
use Rattle.monoid.specs.declared.int.Int.{Int}
use Rattle.types.specs.Types.{Ty}
use Rattle.lang.specs.Layout.{cells}
use Rattle.texts.specs.declared.reader.Reader.{Reader}
use Rattle.values.specs.declared.front.Stopped.{Stopped}
use Rattle.values.specs.Reading.{ReadsFront, StopsAt}
use Rattle.texts.specs.Texts.{value_text}

-- n bytes more were read, and these cells were stored behind those in use, as far as there is room
pub record Advanced (from to : Reader) (n : ℕ) (row : List Int) : Type 0 where
  pub same_text : to.text.now ≡ from.text.now
  pub same_reference : to.cells.ghost_name ≡ from.cells.ghost_name
  pub end : to.at ≡ from.at + n
  pub used : to.used ≡ from.used + length row
  pub stored : to.cells.now ≡ sets from.cells.now from.used row

-- the byte c was next, and was read
pub record ByteRead (c : ℕ) (from to : Reader) : Type 0 where
  pub is : slice_get from.text.now from.at ≡ Some c
  pub moved : Advanced from to 1 []

-- at the place p the byte c is not next
pub record NoByte (c : ℕ) (from : Reader) (p : ℕ) : Type 0 where
  pub end : p ≡ from.at
  pub other : slice_get from.text.now from.at ≢ Some c

-- at the place p no sign of a list is next
pub record NoSign (from : Reader) (p : ℕ) : Type 0 where
  pub end : p ≡ from.at
  pub no_comma : slice_index from.text.now from.at ≢ 44
  pub no_bracket : slice_index from.text.now from.at ≢ 93

-- the cell at i was set to x, if there is one
pub record Stores (i : ℕ) (x : Int) (from to : Reader) : Type 0 where
  pub same_text : to.text.now ≡ from.text.now
  pub same_reference : to.cells.ghost_name ≡ from.cells.ghost_name
  pub same_place : to.at ≡ from.at
  pub same_used : to.used ≡ from.used
  pub stored : to.cells.now ≡ slice_set from.cells.now i x

-- the opening bracket was next, and was read; the cell at header is in use, for the length
pub record OpensList (header : ℕ) (from to : Reader) : Type 0 where
  pub is : slice_get from.text.now from.at ≡ Some 91
  pub same_text : to.text.now ≡ from.text.now
  pub same_reference : to.cells.ghost_name ≡ from.cells.ghost_name
  pub end : to.at ≡ from.at + 1
  pub header_is : header ≡ from.used
  pub used : to.used ≡ from.used + 1
  pub stored : to.cells.now ≡ from.cells.now

-- at the place of from stands the text of a value, with to behind it, and the value's cells were stored
pub record PhraseRead {X : Type 0} (text : X → List ℕ) (row : X → List Int) (from to : Reader) : Type 0 where
  pub value : X
  pub long : ℕ
  pub is : ReadsFront text (drop from.at from.text.now) value long
  pub moved : Advanced from to long (row value)

-- at the place of from stands no such text, and what begins one ends at p
pub record PhraseStops {X : Type 0} (text : X → List ℕ) (from : Reader) (p : ℕ) : Type 0 where
  pub long : ℕ
  pub end : p ≡ from.at + long
  pub is : StopsAt text (drop from.at from.text.now) long

-- what reading a phrase answers: it was read, or where it stops
abbrev pub ReadsPhrase : {X : Type 0} → (X → List ℕ) → (X → List Int) → Reader → Reader → Result (Unit {0}) Stopped → Type 0
ReadsPhrase text row from to r = MatchResult r (λ _. PhraseRead text row from to) (λ stop. PhraseStops text from stop.length)

-- the same for a value of the type t
abbrev pub ReadsType : Ty → Reader → Reader → Result (Unit {0}) Stopped → Type 0
ReadsType t from to r = ReadsPhrase (value_text t) (cells t) from to r
