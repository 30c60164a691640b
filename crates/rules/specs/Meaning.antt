-- What the primitives do, as laws.
use Rattle.std.specs.Prelude.{◌≡◌, ℕ, ◌<◌, false, ◌⊎◌, ◌↔◌, List, map, length, take, ℤ, pos, negsuc, ◌+ℤ◌, ◌*ℤ◌, int_div, int_rem, slice_index_or, unsigned_abs}
use Rattle.std.proofs.Math.Option.{some}
use Rattle.std.specs.Int.Signed.{non_neg}
use Rattle.monoid.specs.declared.int.Int.{Int}
use Rattle.monoid.specs.Ints.{int_of, int_zero, int_least, zero_number}
use Rattle.monoid.specs.Laws.{Laws, product}
use Rattle.monoid.specs.Segments.{concat}
use Rattle.grammar.specs.declared.occurrence.Operation.{Operation}
use Rattle.types.specs.Types.{Ty}
use Rattle.lang.specs.Values.{Val}
use Rattle.lang.specs.Expr.{joined, part_op, scan_op, range_op}
use Rattle.rules.specs.Joining.{HouseJoin, HouseLaws, latest, bits, joining}
use Rattle.rules.specs.Arithmetic.{int_quotient, int_remainder, many}
use Rattle.rules.specs.Primitives.{apply}
use Rattle.rules.specs.Lists.{below}

-- the quotient times the divisor, and the remainder, come to the dividend; the remainder is smaller than the divisor, and has the
-- dividend's sign unless it is 0
pub record Divides (x y : ℤ) : Type 0 where
  pub whole : int_div x y *ℤ y +ℤ int_rem x y ≡ x
  pub smaller : unsigned_abs (int_rem x y) < unsigned_abs y
  pub sign : (int_rem x y ≡ pos 0) ⊎ (non_neg (int_rem x y) ≡ non_neg x)

abbrev pub minus_one : Int
minus_one = int_of (negsuc 0)

pub record DivisionLaw : Type 0 where
  pub divides : (x y : ℤ) → zero_number y ≡ false → Divides x y
  -- a remainder never wraps, and a quotient only where the lowest int is divided by -1
  pub remainders : (x y : Int) → (int_remainder x y).value ≡ int_rem x.value y.value
  pub quotients : (x y : Int) → ((x.value ≡ int_least.value) × (y.value ≡ minus_one.value) → ⊥) →
      (int_quotient x y).value ≡ int_div x.value y.value
  pub lowest : int_quotient int_least minus_one ≡ int_least
  pub lowest_rest : int_remainder int_least minus_one ≡ int_zero

pub record ListsLaw : Type 0 where
  -- the parts are lists of these lengths that stand side by side in the list; there are no others
  pub parts : (H : HouseJoin) (a : Ty) (xs : List (Val a)) (c : List Int) (yss : List (List (Val a))) →
      (apply H part_op (xs, (c, tt)) ≡ some yss) ↔ ((concat yss ≡ xs) × (map (λ ys. pos (length ys)) yss ≡ map (λ n. n.value) c))
  -- the ints below n, from 0: none of them wraps
  pub ranges : (H : HouseJoin) (n : Int) (is : List Int) →
      apply H range_op (n, tt) ≡ some is → map (λ i. i.value) is ≡ map pos (below (many n.value))

pub record JoinsLaw : Type 0 where
  pub houses : HouseLaws latest × HouseLaws bits
  pub monoids : (H : HouseJoin) → HouseLaws H → (o : Operation) → Laws (joining H o).unit (joining H o).op
  -- a scan has at each place the join of the elements before it
  pub scans : (H : HouseJoin) → HouseLaws H → (o : Operation) (xs ys : List (Val (joined o))) → apply H (scan_op o) (xs, tt) ≡ some ys →
      (length ys ≡ length xs) ×
      ((k : ℕ) → k < length xs → slice_index_or ys k (joining H o).unit ≡ product (joining H o).unit (joining H o).op (take k xs))
