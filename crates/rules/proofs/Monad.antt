-- The laws of values with work: a monad, and a commutative one where faults are forgotten.
use Rattle.std.proofs.Common.{◌≡◌, ℕ, ◌+◌, List, [], ◌∷◌, map, sym, refl, ap, add-zero, add_assoc, add_comm, zero-add, arith}
use Rattle.std.proofs.lemmas.Grind.{common_steps}
use mathlib.Core.Path.{fun_ext}
use Rattle.lang.specs.Values.{sum_by}
use Rattle.rules.specs.Outcome.{ok, fail, Work, plus, ◌>>=◌, cost, all}

module _ {E : Type 0} where
  pub plus-plus : {A : Type 0} (n m : ℕ) (x : Work E A) → plus n (plus m x) ≡ plus (n + m) x
  plus-plus n m (ok p) = simp add_assoc
  plus-plus n m (fail e) = refl

  pub plus-zero : {A : Type 0} (x : Work E A) → plus 0 x ≡ x
  plus-zero (ok p) = simp zero-add
  plus-zero (fail e) = refl

  pub plus_bind : {A B : Type 0} (n : ℕ) (x : Work E A) (f : A → Work E B) → (plus n x >>= f) ≡ plus n (x >>= f)
  plus_bind n (ok p) f = sym (plus-plus n p.1 (f p.0))
  plus_bind n (fail e) f = refl

  pub bind_assoc : {A B C : Type 0} (x : Work E A) (f : A → Work E B) (g : B → Work E C) → ((x >>= f) >>= g) ≡ (x >>= λ a. f a >>= g)
  bind_assoc (ok p) f g = plus_bind p.1 (f p.0) g
  bind_assoc (fail e) f g = refl

  pub bind_cong : {A B : Type 0} (x : Work E A) {f g : A → Work E B} → ((a : A) → f a ≡ g a) → (x >>= f) ≡ (x >>= g)
  bind_cong x h = ap (λ k. x >>= k) (fun_ext h)

  pub give_bind : {A B : Type 0} (a : A) (f : A → Work E B) → (cost 0 a >>= f) ≡ f a
  give_bind a f = plus-zero (f a)

  pub bind_give : {A : Type 0} (x : Work E A) → (x >>= λ a. cost 0 a) ≡ x
  bind_give (ok p) = simp add-zero
  bind_give (fail e) = refl

  -- work moves inwards
  pub plus_into : {A B : Type 0} (n : ℕ) (x : Work E A) (f : A → Work E B) → plus n (x >>= f) ≡ (x >>= λ a. plus n (f a))
  plus_into n (ok p) f = grind (arith, common_steps, plus-plus, add_comm)
  plus_into n (fail e) f = refl

  pub all_cong : {A B : Type 0} {f g : A → Work E B} → ((a : A) → f a ≡ g a) → (xs : List A) → all f xs ≡ all g xs
  all_cong h xs = ap (λ k. all k xs) (fun_ext h)

  pub all_map : {A B C : Type 0} (f : B → Work E C) (k : A → B) (xs : List A) → all f (map k xs) ≡ all (λ x. f (k x)) xs
  all_map f k [] = refl
  all_map f k (x ∷ xs) = simp (all_map f k xs)

  -- a charge for each
  pub all-cost : {A B : Type 0} (n : A → ℕ) (k : A → B) (xs : List A) → all {E = E} (λ x. cost (n x) (k x)) xs ≡ cost (sum_by n xs) (map k xs)
  all-cost n k [] = refl
  all-cost n k (x ∷ xs) = simp (all-cost n k xs, add-zero)

-- where faults are forgotten the order does not count
pub swap : {A B C : Type 0} (x : Work (Unit {0}) A) (y : Work (Unit {0}) B) (f : A → B → Work (Unit {0}) C) →
    (x >>= λ a. y >>= λ b. f a b) ≡ (y >>= λ b. x >>= λ a. f a b)
swap (ok p) (ok q) f = grind (arith, common_steps, plus-plus, add_comm)
swap (ok p) (fail e) f = refl
swap (fail e) (ok q) f = refl
swap (fail e) (fail e') f = refl
