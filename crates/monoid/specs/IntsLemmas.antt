-- The arithmetic of ints keeps its laws.
use Rattle.std.specs.Prelude.{◌≡◌, ◌^◌, ◌<◌, true, List, [], ◌∷◌, map, ℤ, pos, negsuc, FitsSigned, bit_or, refl}
use Rattle.std.proofs.Common.{ap, ap₂, sym, ◌∙◌, subst, arith}
use Rattle.std.proofs.Math.Bridge.{le_prop}
use Rattle.std.proofs.lemmas.Nat.{or_lt}
use Rattle.std.specs.Int.Bits.{or_zero_r}
use Rattle.std.proofs.Math.IntN.{+ℤ_comm, *ℤ_comm, *ℤ-zero}
use Rattle.std.specs.Int.Signed.{mag}
use mir.Val.{to_z, of_z, bits, hbits}
use mir.ValLaws.{of_z_fits}
use Rattle.std.proofs.lemmas.Int.{ints, to_z-of_z, of_z-to_z, int_wrap_fits, int_wrap-add_right}
use Rattle.std.specs.Int.{int_wrap}
use Rattle.monoid.specs.Laws.{Laws, SemiringLaws, product}
use Rattle.monoid.specs.Ints.{width, int_zero, int_one, int_least, int_sum, int_product, int_of, larger, zero_number, later, int_or, exact_sum, wrapped_sum}
use Rattle.monoid.specs.declared.int.Int.{Int}
use Rattle.monoid.specs.Modular as modular
use Rattle.monoid.specs.Ors.{or_assoc}

pub fits : (x : Int) → FitsSigned width x.value
fits x = record { sfits = x.ok }

-- an int is its number
pub same_int : (x y : Int) → x.value ≡ y.value → x ≡ y
same_int x y e =
    let of : (v : ℤ) → mag v < 2 ^ hbits width → Int = λ v p. record { value = v; ok = p } in
    let P : ℤ → Type 0 = λ w. (q : mag w < 2 ^ hbits width) → x ≡ of w q in
    subst P e (λ q. ap (of x.value) (le_prop x.ok q)) y.ok

-- two laws on one side, for an operation that commutes
commuting : (unit : Int) (op : Int → Int → Int) → ((x y : Int) → op x y ≡ op y x) → ((x : Int) → op x unit ≡ x) → ((x y z : Int) → op (op x y) z ≡ op x (op y z)) → Laws unit op
commuting unit op comm right assoc = record { left = λ x. comm unit x ∙ right x; right = right; assoc = assoc }

sum_commutes : (x y : Int) → int_sum x y ≡ int_sum y x
sum_commutes x y = ap int_of (+ℤ_comm x.value y.value)

product_commutes : (x y : Int) → int_product x y ≡ int_product y x
product_commutes x y = ap int_of (*ℤ_comm x.value y.value)

pub sum_laws : Laws int_zero int_sum
sum_laws = commuting int_zero int_sum sum_commutes
    (λ x. sum_commutes x int_zero ∙ same_int _ _ (modular.zero-sum width x.value (fits x)))
    (λ x y z. same_int _ _ (modular.sum_assoc width x.value y.value z.value))

pub int_laws : SemiringLaws int_zero int_one int_sum int_product
int_laws = record {
  sums = sum_laws;
  products = commuting int_one int_product product_commutes
      (λ x. same_int _ _ (modular.times_one width x.value (fits x)))
      (λ x y z. same_int _ _ (modular.product_assoc width x.value y.value z.value));
  sums_commute = sum_commutes;
  products_commute = product_commutes;
  distributes = λ x y z. same_int _ _ (modular.distributes width x.value y.value z.value);
  times_zero = λ x. same_int _ _ (ap (int_wrap width) (*ℤ-zero x.value) ∙ int_wrap_fits width (pos 0) (fits int_zero));
}

-- to wrap at each step is to wrap once
pub sum_once : (xs : List Int) → product int_zero int_sum xs ≡ wrapped_sum xs
sum_once [] = same_int int_zero (wrapped_sum []) (sym (int_wrap_fits width (pos 0) (fits int_zero)))
sum_once (x ∷ xs) =
    ap (int_sum x) (sum_once xs) ∙ same_int _ _ (int_wrap-add_right width x.value (exact_sum xs))

-- ---- the larger
least_value : (x : Int) → (larger int_least x).value ≡ x.value
least_value x = let f = fits x in grind (arith, ints)

value-least : (x : Int) → (larger x int_least).value ≡ x.value
value-least x = let f = fits x in grind (arith, ints)

pub max_laws : Laws int_least larger
max_laws = record { left = λ x. same_int _ _ (least_value x); right = λ x. same_int _ _ (value-least x); assoc = λ x y z. grind (arith, ints) }

-- ---- the latest
zero_is : (a : ℤ) → zero_number a ≡ true → a ≡ pos 0
zero_is (pos n) e = grind arith
zero_is (negsuc n) e = grind arith

later-zero : (x : Int) → later int_zero x ≡ x
later-zero x = grind (arith, same_int, zero_is)

later_assoc : (x y z : Int) → later (later x y) z ≡ later x (later y z)
later_assoc x y z = grind arith

pub latest_laws : Laws int_zero later
latest_laws = record { left = later-zero; right = λ x. refl; assoc = later_assoc }

-- ---- bits
bits_lt : (x : Int) → of_z width x.value < 2 ^ bits width
bits_lt x = (of_z_fits width x.value (fits x)).fits

or_bits_lt : (x y : Int) → bit_or (of_z width x.value) (of_z width y.value) < 2 ^ bits width
or_bits_lt x y = or_lt (bits width) _ _ (bits_lt x) (bits_lt y)

pub or_value : (x y : Int) → (int_or x y).value ≡ to_z width (bit_or (of_z width x.value) (of_z width y.value))
or_value x y = modular.wrapped_bits width _ (or_bits_lt x y)

or_bits : (x y : Int) → of_z width (int_or x y).value ≡ bit_or (of_z width x.value) (of_z width y.value)
or_bits x y = ap (of_z width) (or_value x y) ∙ of_z-to_z width _ (or_bits_lt x y)

pub bit_or_laws : Laws int_zero int_or
bit_or_laws = record {
  left = λ x. same_int _ _ (or_value int_zero x ∙ to_z-of_z width x.value (fits x));
  right = λ x. same_int _ _ (or_value x int_zero ∙ ap (to_z width) (or_zero_r (of_z width x.value)) ∙ to_z-of_z width x.value (fits x));
  assoc = λ x y z. ap (λ n. int_of (pos n))
      (ap (λ n. bit_or n (of_z width z.value)) (or_bits x y) ∙ or_assoc (of_z width x.value) (of_z width y.value) (of_z width z.value)
      ∙ sym (ap (bit_or (of_z width x.value)) (or_bits y z)));
}

pub sums_once : (xss : List (List Int)) → map (product int_zero int_sum) xss ≡ map wrapped_sum xss
sums_once [] = refl
sums_once (xs ∷ xss) = ap₂ (λ (y : Int) (ys : List Int). y ∷ ys) (sum_once xs) (sums_once xss)
