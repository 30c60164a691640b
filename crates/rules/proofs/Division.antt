-- Quotients and remainders of ints: what is computed is what is wrapped.
use Rattle.std.proofs.Common.{◌≡◌, ℕ, zero, suc, Bool, true, false, not, Some, ◌^◌, ◌≤◌, ℤ, pos, negsuc, neg_ℤ, nat_abs, refl, le_trans, mod-eq_of_lt, div-le_self, arith, SFits, to_z, of_z}
use Rattle.std.proofs.lemmas.Grind.{common_steps}
use lib.Signed.{quot_z, rem_z, mag_rem, nat_abs-le}
use mir.Val.{hbits}
use Rattle.std.specs.Int.{int_wrap}
use Rattle.std.proofs.lemmas.Int.{to_z-of_z, int_wrap_fits}
use Rattle.monoid.specs.declared.int.Int.{Int}
use Rattle.monoid.specs.Ints.{width, is_zero}
use Rattle.monoid.specs.IntsLemmas.{same_int, fits}
use Rattle.rules.specs.Arithmetic.{int_quotient, int_remainder, divided, told}
use Rattle.rules.specs.Lists.{given}

pub abs_neg : (n : ℕ) → nat_abs (neg_ℤ (pos n)) ≡ n
abs_neg zero = refl
abs_neg (suc n) = refl

pub abs_quotient : (a b : ℤ) → nat_abs (quot_z a b) ≤ nat_abs a
abs_quotient (pos a) (pos b) = div-le_self a b
abs_quotient (pos a) (negsuc b) = grind (arith, common_steps, abs_neg, div-le_self)
abs_quotient (negsuc a) (pos b) = grind (arith, common_steps, abs_neg, div-le_self)
abs_quotient (negsuc a) (negsuc b) = div-le_self (suc a) (suc b)

-- the bits of a number that is at most one past the ints
wrapped_near : (z : ℤ) → nat_abs z ≤ 2 ^ hbits width → to_z width (of_z width z) ≡ int_wrap width z
unfolding int_wrap
wrapped_near (pos n) h = grind (arith, common_steps, to_z, mod-eq_of_lt)
wrapped_near (negsuc n) h = grind (arith, common_steps, to_z, mod-eq_of_lt)

-- an int's number, to its bits and back
kept : (x : Int) → to_z width (of_z width x.value) ≡ x.value
kept x = to_z-of_z width x.value (fits x)

pub quotient_is : (x y r : Int) (q : ℤ) → r.value ≡ to_z width (of_z width q) →
    q ≡ to_z width (of_z width (quot_z (to_z width (of_z width x.value)) (to_z width (of_z width y.value)))) → SFits width q → r ≡ int_quotient x y
quotient_is x y r q e d f = grind (arith, common_steps, same_int, to_z-of_z, to_z, of_z, quot_z, kept, wrapped_near, le_trans, abs_quotient, nat_abs-le)

pub remainder_is : (x y r : Int) (q : ℤ) → r.value ≡ to_z width (of_z width q) →
    q ≡ rem_z (to_z width (of_z width x.value)) (to_z width (of_z width y.value)) → SFits width q → r ≡ int_remainder x y
remainder_is x y r q e d f = grind (arith, common_steps, mag_rem, SFits, rem_z, same_int, to_z-of_z, kept, int_wrap_fits)

-- by what is not 0
pub divided_is : (f : Int → Int → Int) (x y by r : Int) → Some by ≡ told (given (not (is_zero y)) y) → r ≡ f x by → Some r ≡ told (divided f x y)
divided_is f x y by r e d = when (is_zero y) e
  where
    when : (b : Bool) → Some by ≡ told (given (not b) y) → Some r ≡ told (given (not b) (f x y))
    when true h = cc
    when false h = cc
