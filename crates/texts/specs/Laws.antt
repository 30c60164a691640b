-- What reading and printing have to do with each other.
use Rattle.std.specs.Prelude.{◌≡◌, ℕ, ◌^◌, ◌<◌, ◌≤◌, List, ◌++◌, length, take, drop, Ok, Result, MatchResult}
use mir.Val.{hbits}
use Rattle.monoid.specs.declared.int.Int.{Int}
use Rattle.monoid.specs.Ints.{width}
use Rattle.types.specs.Types.{Ty}
use Rattle.lang.specs.Values.{Val, size}
use Rattle.lang.specs.Layout.{cells}
use Rattle.values.specs.declared.print.TooShort.{TooShort}
use Rattle.texts.specs.declared.fault.ReadFault.{ReadFault}
use Rattle.texts.specs.Outcome.{IsValue, Reads}
use Rattle.values.specs.Printing.{Printed, Short}
use Rattle.texts.specs.Printing.{Holds, Prints}
use Rattle.texts.specs.Texts.{value_text}

-- a value has as many cells as its size
abbrev pub CellsCount : Type 0
CellsCount = (t : Ty) (v : Val t) → length (cells t v) ≡ size t v

-- a text has one value
abbrev pub OneValue : Type 0
OneValue = (t : Ty) (v w : Val t) → value_text t v ≡ value_text t w → v ≡ w

-- the bytes that were printed are read as the value whose cells were printed, if there is room for it
abbrev pub ReadPrinted : Type 0
ReadPrinted =
    (t : Ty) (v : Val t) (cs : List Int) (out out' : List ℕ) (m : ℕ) (room room' : List Int) (r : Result ℕ ReadFault)
    → Holds t v cs → Prints t cs out out' (Ok m) → Reads t (take m out') room room' r → size t v ≤ length room
    → (r ≡ Ok (size t v)) × (room' ≡ cells t v ++ drop (size t v) room)

-- the cells that were read are printed as the bytes that they were read from
abbrev pub PrintRead : Type 0
PrintRead =
    (t : Ty) (s : List ℕ) (n : ℕ) (cs cs' : List Int) (out out' : List ℕ) (r : Result ℕ TooShort)
    → IsValue t s n cs cs' → n < 2 ^ hbits width → Prints t cs' out out' r → MatchResult r (λ m. Printed s m out out') (λ f. Short s f.needed out out')
