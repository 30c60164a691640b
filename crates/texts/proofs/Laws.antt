-- Reading and printing undo each other.
use Rattle.std.proofs.Common.{◌≡◌, ℕ, ◌≤◌, List, ◌++◌, length, take, drop, Ok, Err, Result, sym, refl, ap, ◌∙◌, subst, ap₂, arith, MatchResult}
use Rattle.std.proofs.lemmas.List.{take_at}
use Rattle.monoid.specs.declared.int.Int.{Int}
use Rattle.types.specs.Types.{Ty}
use Rattle.lang.specs.Values.{Val, size}
use Rattle.lang.specs.Layout.{cells}
use Rattle.texts.specs.declared.fault.ReadFault.{ReadFault}
use Rattle.texts.specs.declared.fault.ReadFault.TheVariants.{NoValue, TooLarge}
use Rattle.texts.specs.Laws.{CellsCount, OneValue, ReadPrinted, PrintRead}
use Rattle.texts.specs.Outcome.{Reads}
use Rattle.values.specs.Printing.{Printed, Short}
use Rattle.texts.specs.Texts.{value_text}
use Rattle.texts.proofs.Types.{cells-size, value_same}

pub cells_count : CellsCount
cells_count = cells-size

pub one_value : OneValue
one_value = value_same

-- the bytes that were printed
first_bytes : (text : List ℕ) (m : ℕ) (out out' : List ℕ) → Printed text m out out' → take m out' ≡ text
first_bytes text m out out' p = ap₂ (λ (i : ℕ) (t : List ℕ). take i t) p.length_is p.written ∙ take_at text (drop (length text) out) (length text) refl

module _ (t : Ty) (v : Val t) (s : List ℕ) (is : s ≡ value_text t v) (room room' : List Int) (fits : size t v ≤ length room) where
  back : (r : Result ℕ ReadFault) → Reads t s room room' r → (r ≡ Ok (size t v)) × (room' ≡ cells t v ++ drop (size t v) room)
  back (Ok n) reads =
      let same : reads.value ≡ v = sym (reads.only v is) in
      let so : n ≡ size t v = reads.sized ∙ ap (size t) same in
      (ap Ok so, reads.stored ∙ ap₂ (λ (w : Val t) (k : ℕ). cells t w ++ drop k room) same so)
  back (Err (NoValue p)) reads = absurd (reads.none v is)
  back (Err TooLarge) reads =
      let same : reads.value ≡ v = value_same t reads.value v (sym reads.is ∙ is) in
      absurd (omega (arith, reads.over, ap (size t) same))

pub read_printed : ReadPrinted
read_printed t v cs out out' m room room' r holds prints reads fits =
    back t v (take m out') (first_bytes (value_text t v) m out out' (prints v holds)) room room' fits r reads

pub print_read : PrintRead
print_read t s n cs cs' out out' r reads small prints =
    let v = reads.value in
    let front : take (size t v) cs' ≡ cells t v = ap (take (size t v)) reads.stored ∙ take_at (cells t v) (drop n cs) (size t v) (cells-size t v) in
    let done = prints v (record { is = front; small = omega (arith, reads.sized, small) }) in
    subst (λ u. MatchResult r (λ m. Printed u m out out') (λ f. Short u f.needed out out')) (sym reads.is) done
