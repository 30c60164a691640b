-- Arithmetic that wraps, over the width.
use Rattle.std.specs.Prelude.{◌≡◌, ℕ, ◌*◌, ◌^◌, ◌<◌, ℤ, pos, ◌+ℤ◌, ◌*ℤ◌, FitsSigned}
use Rattle.std.proofs.Math.Path.{ap}
use Rattle.std.proofs.Common.{sym, ◌∙◌, arith, mod-eq_of_lt}
use Rattle.std.proofs.Math.IntN.{one, +ℤ_idl, +ℤ_assoc, *ℤ-one}
use mir.Val.{to_z, bits}
use borrow.Author.Differences.{up, down, same_in, sum_is_lem, product_is}
use Rattle.std.specs.Int.{int_wrap, Width}
use Rattle.std.proofs.lemmas.Int.{int_wrap_fits, int_wrap-add_left, int_wrap-add_right, int_wrap-mul_left, int_wrap-mul_right}

pub times_assoc : (a b c : ℤ) → (a *ℤ b) *ℤ c ≡ a *ℤ (b *ℤ c)
times_assoc a b c =
    let p = product_is a b in
    let q = product_is b c in
    omega (arith, same_in, product_is, ap (λ x. x * up c) p.0, ap (λ x. x * down c) p.0, ap (λ x. x * up c) p.1, ap (λ x. x * down c) p.1, ap (λ x. up a * x) q.0, ap (λ x. down a * x) q.0, ap (λ x. up a * x) q.1, ap (λ x. down a * x) q.1)

pub times_sum : (a b c : ℤ) → a *ℤ (b +ℤ c) ≡ a *ℤ b +ℤ a *ℤ c
times_sum a b c = let s = sum_is_lem b c in omega (arith, same_in, sum_is_lem, product_is, ap (λ x. up a * x) s, ap (λ x. down a * x) s)

module _ (w : Width) where
  pub zero-sum : (a : ℤ) → FitsSigned w a → int_wrap w (pos 0 +ℤ a) ≡ a
  zero-sum a fits = ap (int_wrap w) (+ℤ_idl a) ∙ int_wrap_fits w a fits

  pub sum_assoc : (a b c : ℤ) → int_wrap w (int_wrap w (a +ℤ b) +ℤ c) ≡ int_wrap w (a +ℤ int_wrap w (b +ℤ c))
  sum_assoc a b c = int_wrap-add_left w (a +ℤ b) c ∙ ap (int_wrap w) (+ℤ_assoc a b c) ∙ sym (int_wrap-add_right w a (b +ℤ c))

  pub times_one : (a : ℤ) → FitsSigned w a → int_wrap w (a *ℤ pos 1) ≡ a
  unfolding one
  times_one a fits = ap (int_wrap w) (*ℤ-one a) ∙ int_wrap_fits w a fits

  pub product_assoc : (a b c : ℤ) → int_wrap w (int_wrap w (a *ℤ b) *ℤ c) ≡ int_wrap w (a *ℤ int_wrap w (b *ℤ c))
  product_assoc a b c = int_wrap-mul_left w (a *ℤ b) c ∙ ap (int_wrap w) (times_assoc a b c) ∙ sym (int_wrap-mul_right w a (b *ℤ c))

  pub distributes : (a b c : ℤ) → int_wrap w (a *ℤ int_wrap w (b +ℤ c)) ≡ int_wrap w (int_wrap w (a *ℤ b) +ℤ int_wrap w (a *ℤ c))
  distributes a b c =
      int_wrap-mul_right w a (b +ℤ c) ∙ ap (int_wrap w) (times_sum a b c)
      ∙ sym (int_wrap-add_left w (a *ℤ b) (int_wrap w (a *ℤ c)) ∙ int_wrap-add_right w (a *ℤ b) (a *ℤ c))

  -- bits as a number
  pub wrapped_bits : (n : ℕ) → n < 2 ^ bits w → int_wrap w (pos n) ≡ to_z w n
  unfolding int_wrap
  wrapped_bits n h = ap (to_z w) (mod-eq_of_lt h)
