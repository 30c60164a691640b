-- Reading rows: what is held, and where it stops.
use Rattle.std.specs.Prelude.{◌≡◌, ℕ, ◌+◌, List, map, length}
use Rattle.monoid.specs.declared.int.Int.{Int}
use Rattle.values.specs.declared.fault.ReadFault.{ReadFault}
use Rattle.values.specs.declared.fault.ReadFault.TheVariants.{NoValue, Memory}
use Rattle.values.specs.Texts.{rows_text}
use Rattle.monoid.specs.Segments.{concat}

-- where a refusal has a place, P holds of it
abbrev pub Stopping : (ℕ → Type 0) → ReadFault → Type 0
Stopping P (NoValue place) = P place
Stopping P Memory = Unit {0}

-- p lies behind the place at, by a number of which P holds
abbrev pub Behind : ℕ → (ℕ → Type 0) → ℕ → Type 0
Behind at P p = (n : ℕ) × (p ≡ at + n) × P n

-- the same refusal of a text that stands behind at bytes
abbrev pub fault_behind : ℕ → ReadFault → ReadFault
fault_behind at (NoValue place) = NoValue (at + place)
fault_behind at Memory = Memory

-- rows side by side: all their ints, and the length of each
pub record Holds (rows : List (List Int)) (ints : List Int) (lengths : List ℕ) : Type 0 where
  pub all : ints ≡ concat rows
  pub each : lengths ≡ map length rows

-- s is the text of rows, these are held, and it is the text of no others
pub record RowsRead (s : List ℕ) (ints : List Int) (lengths : List ℕ) : Type 0 where
  pub rows : List (List Int)
  pub is : s ≡ rows_text rows
  pub only : (others : List (List Int)) → s ≡ rows_text others → others ≡ rows
  pub held : Holds rows ints lengths
