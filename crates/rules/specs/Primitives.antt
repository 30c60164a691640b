-- What each primitive gives for its operands, and the number with which it fails where it gives nothing.
use Rattle.std.specs.Prelude.{ℕ, zero, suc, ◌&&◌, List, [], ◌∷◌, map, length, ℤ, pos, negsuc}
use Rattle.std.proofs.Math.Option.{Option, none, some}
use Rattle.std.specs.Int.Signed.{non_neg}
use Rattle.monoid.specs.declared.int.Int.{Int}
use Rattle.monoid.specs.Ints.{int_of, exact_sum}
use Rattle.monoid.specs.Laws.{product}
use Rattle.monoid.specs.Segments.{concat, cut, running}
use Rattle.types.specs.Types.{Ty}
use Rattle.grammar.specs.declared.occurrence.Infix.{Infix}
use Rattle.grammar.specs.declared.occurrence.Infix.TheVariants.{Add, Subtract, Multiply, Divide, Remainder, Same, Less}
use Rattle.lang.specs.Values.{Val}
use Rattle.lang.specs.Expr.{copies, Op, infix_op, mkpair, first, second, bracket, hollow, index, len_op, range_op, flat_op, part_op, scan_op, reduce_op}
use Rattle.rules.specs.Lists.{all_of, nth, below, given}
use Rattle.rules.specs.Environment.{Env}
use Rattle.rules.specs.Arithmetic.{infix_of, same_number, many}
use Rattle.rules.specs.Joining.{HouseJoin, joining}

-- the element at an int's place, if it is one
abbrev pub at : {A : Type 0} → List A → ℤ → Option A
at xs (pos i) = nth xs i
at xs (negsuc i) = none

-- the ints from 0 to n - 1
abbrev pub ints_below : ℕ → List Int
ints_below n = map (λ i. int_of (pos i)) (below n)

-- cut into lists of these lengths, unless one is negative or they do not come to all of it
abbrev pub parted : {A : Type 0} → List A → List Int → Option (List (List A))
parted xs c =
    given (all_of (λ n. non_neg n.value) c && same_number (exact_sum c) (pos (length xs))) (cut xs (map (λ n. many n.value) c))

abbrev pub elements : (k : ℕ) (a : Ty) → Env (copies k a) → List (Val a)
elements zero a ρ = []
elements (suc k) a ρ = ρ.0 ∷ elements k a ρ.1

abbrev pub apply : HouseJoin → {ts : List Ty} {t : Ty} → Op ts t → Env ts → Option (Val t)
apply H (infix_op o) ρ = infix_of o ρ.0 ρ.1.0
apply H mkpair ρ = some (ρ.0, ρ.1.0)
apply H first ρ = some ρ.0.0
apply H second ρ = some ρ.0.1
apply H (bracket k a) ρ = some (ρ.0 ∷ elements k a ρ.1)
apply H (hollow a) ρ = some []
apply H index ρ = at ρ.0 ρ.1.0.value
apply H len_op ρ = some (int_of (pos (length ρ.0)))
apply H range_op ρ = some (ints_below (many ρ.0.value))
apply H flat_op ρ = some (concat ρ.0)
apply H part_op ρ = parted ρ.0 ρ.1.0
apply H (scan_op o) ρ = some (running (joining H o).op (joining H o).unit ρ.0)
apply H (reduce_op o) ρ = some (product (joining H o).unit (joining H o).op ρ.0)

-- signs that cannot fail have 0
abbrev pub infix_failure : Infix → ℕ
infix_failure Add = 0
infix_failure Subtract = 0
infix_failure Multiply = 0
infix_failure Divide = 18
infix_failure Remainder = 18
infix_failure Same = 0
infix_failure Less = 0

abbrev pub failure : {ts : List Ty} {t : Ty} → Op ts t → ℕ
failure (infix_op o) = infix_failure o
failure mkpair = 0
failure first = 0
failure second = 0
failure (bracket k a) = 0
failure (hollow a) = 0
failure index = 19
failure len_op = 0
failure range_op = 0
failure flat_op = 0
failure part_op = 20
failure (scan_op o) = 0
failure (reduce_op o) = 0
