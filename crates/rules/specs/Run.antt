-- Runs under a budget: from the charges so far to an answer and the charges then, or to a refusal.
use Rattle.std.specs.Prelude.{ℕ, ◌+◌, Bool, true, false, List, [], ◌∷◌, nat_le}
use Rattle.std.proofs.Math.Option.{Option, none, some}
use Rattle.refusal.specs.declared.Refusal.{Refusal}
use Rattle.rules.specs.Outcome.{refusal, Outcome, ok, fail}

abbrev pub Run : Type 0 → Type 0
Run A = ℕ → Outcome Refusal (A × ℕ)

abbrev pub go : {A B : Type 0} → Outcome Refusal (A × ℕ) → (A → Run B) → Outcome Refusal (B × ℕ)
go (ok p) f = f p.0 p.1
go (fail e) f = fail e

infixr 20 ◌>>=◌
abbrev pub ◌>>=◌ : {A B : Type 0} → Run A → (A → Run B) → Run B
(m >>= f) c = go (m c) f

abbrev pub give : {A : Type 0} → A → Run A
give a c = ok (a, c)

-- a failure stops the run
abbrev pub test : {A : Type 0} → Refusal → Option A → Run A
test e none c = fail e
test e (some a) c = ok (a, c)

-- the number with which a run that passes its budget is refused
abbrev pub spent : ℕ
spent = 17

abbrev pub charged : {A : Type 0} → Bool → ℕ → ℕ → A → Outcome Refusal (A × ℕ)
charged true p c a = ok (a, c)
charged false p c a = fail (refusal spent p)

-- n more charges at the place p, unless they pass the budget B
abbrev pub charge : (B : ℕ) {A : Type 0} → ℕ → ℕ → A → Run A
charge B p n a c = charged (nat_le (c + n) B) p (c + n) a

-- one of two
abbrev pub branch : {A : Type 0} → Bool → Run A → Run A → Run A
branch true f g = f
branch false f g = g

-- each in turn
abbrev pub each_run : {A B : Type 0} → (A → Run B) → List A → Run (List B)
each_run f [] = give []
each_run f (x ∷ xs) = f x >>= λ y. each_run f xs >>= λ ys. give (y ∷ ys)

-- each in turn, the test first, and the rest of it only where the test is true
abbrev pub keep_run : {A B : Type 0} → (A → Run Bool) → (A → Run B) → List A → Run (List B)
keep_run f g [] = give []
keep_run f g (x ∷ xs) = f x >>= λ t. branch t (g x >>= λ y. keep_run f g xs >>= λ ys. give (y ∷ ys)) (keep_run f g xs)
