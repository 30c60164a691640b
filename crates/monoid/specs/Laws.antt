-- What a monoid is, a commutative semiring, and what a list of a monoid's elements comes to.
use Rattle.std.specs.Prelude.{◌≡◌, List, [], ◌∷◌}

pub record Laws {M : Type 0} (unit : M) (op : M → M → M) : Type 0 where
  pub left : (x : M) → op unit x ≡ x
  pub right : (x : M) → op x unit ≡ x
  pub assoc : (x y z : M) → op (op x y) z ≡ op x (op y z)

pub record SemiringLaws {R : Type 0} (zero one : R) (plus times : R → R → R) : Type 0 where
  pub sums : Laws zero plus
  pub products : Laws one times
  pub sums_commute : (x y : R) → plus x y ≡ plus y x
  pub products_commute : (x y : R) → times x y ≡ times y x
  pub distributes : (x y z : R) → times x (plus y z) ≡ plus (times x y) (times x z)
  pub times_zero : (x : R) → times x zero ≡ zero

-- the product of all, in order
abbrev pub product : {M : Type 0} → M → (M → M → M) → List M → M
product unit op [] = unit
product unit op (x ∷ xs) = op x (product unit op xs)
