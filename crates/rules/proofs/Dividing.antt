-- Quotients and remainders: what they come to together.
use Rattle.std.proofs.Common.{◌≡◌, ℕ, zero, suc, ◌+◌, ◌*◌, ◌/◌, ◌%◌, ◌^◌, ◌<◌, ◌≤◌, false, ◌⊎◌, ℤ, pos, negsuc, ◌+ℤ◌, ◌*ℤ◌, neg_ℤ, nat_abs, sym, refl, ap, ◌∙◌, inl, inr, mod-lt, div-add-mod', zero-mul, mul-suc, div-le_self, div-one, arith}
use Rattle.std.proofs.lemmas.Grind.{common_steps}
use lib.Signed.{mag, non_neg, quot_z, rem_z, mag_rem}
use mir.Val.{hbits}
use Rattle.std.specs.Int.{int_wrap}
use Rattle.std.proofs.lemmas.Int.{ints, int_wrap_fits}
use Rattle.monoid.specs.declared.int.Int.{Int}
use Rattle.monoid.specs.Ints.{width, int_least, zero_number}
use Rattle.monoid.specs.IntsLemmas.{same_int}
use Rattle.rules.specs.Arithmetic.{int_remainder}
use Rattle.rules.specs.Meaning.{minus_one, DivisionLaw}
use Rattle.rules.proofs.Division.{abs_neg}

times_neg : (q b : ℕ) → neg_ℤ (pos q) *ℤ negsuc b ≡ pos (q * suc b)
times_neg zero b = grind (arith, common_steps, neg_ℤ, zero-mul)
times_neg (suc q) b = refl

times_pos : (q b : ℕ) → neg_ℤ (pos q) *ℤ pos b ≡ neg_ℤ (pos (q * b))
times_pos zero b = ap pos (zero-mul b) ∙ sym (ap (λ n. neg_ℤ (pos n)) (zero-mul b))
times_pos (suc q) b = refl

neg_sum : (a b : ℕ) → neg_ℤ (pos a) +ℤ neg_ℤ (pos b) ≡ neg_ℤ (pos (a + b))
neg_sum a b = omega (arith, ints)

whole : (x y : ℤ) → quot_z x y *ℤ y +ℤ rem_z x y ≡ x
whole (pos a) (pos b) = ap pos (div-add-mod' a b)
whole (pos a) (negsuc b) = grind (arith, common_steps, times_neg, div-add-mod')
whole (negsuc a) (pos b) = grind (arith, common_steps, neg_ℤ, times_pos, neg_sum, div-add-mod')
whole (negsuc a) (negsuc b) = grind (arith, common_steps, neg_sum, neg_ℤ, div-add-mod')

above : (y : ℤ) → zero_number y ≡ false → 0 < nat_abs y
above (pos b) h = grind arith
above (negsuc b) h = omega arith

smaller : (x y : ℤ) → 0 < nat_abs y → nat_abs (rem_z x y) < nat_abs y
smaller (pos a) y h = mod-lt a h
smaller (negsuc a) y h = grind (arith, common_steps, abs_neg, nat_abs, mod-lt)

neg_sign : (n : ℕ) → (neg_ℤ (pos n) ≡ pos 0) ⊎ (non_neg (neg_ℤ (pos n)) ≡ false)
neg_sign zero = inl refl
neg_sign (suc n) = inr refl

sign : (x y : ℤ) → (rem_z x y ≡ pos 0) ⊎ (non_neg (rem_z x y) ≡ non_neg x)
sign (pos a) y = inr refl
sign (negsuc a) y = neg_sign (suc a % nat_abs y)

remainders : (x y : Int) → (int_remainder x y).value ≡ rem_z x.value y.value
remainders x y = grind (arith, common_steps, mag_rem, int_wrap_fits, rem_z)

mag_neg : (n h : ℕ) → n ≤ h → 0 < h → mag (neg_ℤ (pos n)) < h
mag_neg zero h l p = p
mag_neg (suc n) h l p = omega arith

-- half of it at most
halved : (n b : ℕ) → n / suc (suc b) + n / suc (suc b) ≤ n
halved n b = grind (arith, common_steps, div-add-mod', mul-suc)

quotient_fits : (x y : ℤ) → mag x < 2 ^ hbits width → ((x ≡ int_least.value) × (y ≡ minus_one.value) → ⊥) → mag (quot_z x y) < 2 ^ hbits width
unfolding int_wrap
quotient_fits (pos a) (pos b) h n = let l = div-le_self a b in omega arith
quotient_fits (pos a) (negsuc b) h n = grind (arith, common_steps, mag_neg, div-le_self)
quotient_fits (negsuc a) (pos b) h n = grind (arith, common_steps, mag_neg, div-le_self)
quotient_fits (negsuc a) (negsuc (suc b)) h n = let l = halved (suc a) b in omega arith
quotient_fits (negsuc a) (negsuc zero) h n = grind (arith, common_steps, div-one, mag)

pub division_law : DivisionLaw
unfolding int_wrap
division_law = grind (arith, common_steps, whole, smaller, above, sign, remainders, int_wrap_fits, quot_z, quotient_fits, same_int)
