-- What totals are, and what each answer says.
use Rattle.std.specs.Prelude.{◌≡◌, ℕ, ◌+◌, ◌%◌, ◌^◌, List, map, length, Some, None, Option}
use Rattle.monoid.specs.Ints.{wrapped_sum}
use Rattle.monoid.specs.Segments.{concat}
use Rattle.monoid.specs.declared.int.Int.{Int}
use Rattle.values.specs.Printing.{Printed, Short}
use Rattle.values.specs.Reading.{NoText}
use Rattle.values.specs.Texts.{int_text, list_text, rows_text}
use Rattle.values.specs.declared.fault.ReadFault.{ReadFault}
use Rattle.values.specs.declared.fault.ReadFault.TheVariants.{NoValue as NoValueRead, Memory as MemoryRead}
use Rattle.refusal.specs.declared.Refusal.{Refusal}
use Rattle.totals.specs.declared.report.Report.{Report}
use Rattle.totals.specs.declared.report.TotalsFault.{TotalsFault}
use Rattle.totals.specs.declared.report.TotalsFault.TheVariants.{NoValue, TooShort, Memory}

-- the number and place of each refusal
abbrev pub refusal_of : TotalsFault → Option Refusal
refusal_of (NoValue place) = Some (record { number = 11; place = place })
refusal_of (TooShort needed) = Some (record { number = 21; place = needed })
refusal_of Memory = None

abbrev pub of_read : ReadFault → TotalsFault
of_read (NoValueRead place) = NoValue place
of_read MemoryRead = Memory

-- the text of the totals: for each row, in order, the sum of its ints, wrapped; an empty row has 0
abbrev pub totals_text : List (List Int) → List ℕ
totals_text rows = list_text int_text (map wrapped_sum rows)

-- the text is that of rows, and of no others
pub record IsRows (text : List ℕ) (rows : List (List Int)) : Type 0 where
  pub is : text ≡ rows_text rows
  pub only : (others : List (List Int)) → text ≡ rows_text others → others ≡ rows

-- the engine's count rises by its price for all ints
abbrev pub Paid : (ℕ → ℕ) → List (List Int) → ℕ → ℕ → Type 0
Paid price rows kept kept' = kept' ≡ (kept + price (length (concat rows))) % 2 ^ 64

-- the totals were printed
pub record Totalled (price : ℕ → ℕ) (kept kept' : ℕ) (text out out' : List ℕ) (report : Report) : Type 0 where
  pub rows : List (List Int)
  pub read : IsRows text rows
  pub printed : Printed (totals_text rows) report.length out out'
  pub players : report.players ≡ length rows
  pub games : report.games ≡ length (concat rows)
  pub operations : report.operations ≡ price (length (concat rows)) % 2 ^ 64
  pub paid : Paid price rows kept kept'

-- the totals found no room in the output
pub record NoRoom (price : ℕ → ℕ) (kept kept' : ℕ) (text out out' : List ℕ) (needed : ℕ) : Type 0 where
  pub rows : List (List Int)
  pub read : IsRows text rows
  pub short : Short (totals_text rows) needed out out'
  pub paid : Paid price rows kept kept'

-- each refusal: 11 where the text is no list of rows, 21 where the output is too short; the output is never touched, and but for 21 the engine neither
abbrev pub Declined : {E : Type 0} → (ℕ → ℕ) → (E → ℕ) → E → E → List ℕ → List ℕ → List ℕ → TotalsFault → Type 0
Declined price kept engine engine' text out out' (NoValue place) = NoText rows_text text place × (engine' ≡ engine) × (out' ≡ out)
Declined price kept engine engine' text out out' (TooShort needed) = NoRoom price (kept engine) (kept engine') text out out' needed
Declined price kept engine engine' text out out' Memory = (engine' ≡ engine) × (out' ≡ out)
