-- Outcomes with work: a value and the work that it took, or a fault; and how they are put together, from the left.
use Rattle.std.specs.Prelude.{ℕ, ◌+◌, Bool, cond, List, [], ◌∷◌}
use Rattle.std.proofs.Math.Option.{Option, none, some}
use Rattle.refusal.specs.declared.Refusal.{Refusal}

-- the fault of the rules and runs: a refusal's number and place
abbrev pub refusal : ℕ → ℕ → Refusal
refusal n p = record { number = n; place = p }

pub data Outcome (E A : Type 0) : Type 0 where
  ok : A → Outcome E A
  fail : E → Outcome E A

abbrev pub Work : Type 0 → Type 0 → Type 0
Work E A = Outcome E (A × ℕ)

module _ {E : Type 0} where
  -- n more work
  abbrev pub plus : {A : Type 0} → ℕ → Work E A → Work E A
  plus n (ok p) = ok (p.0, n + p.1)
  plus n (fail e) = fail e

  -- the one, then the other with its value: the work of both, or the first fault
  infixr 20 ◌>>=◌
  abbrev pub ◌>>=◌ : {A B : Type 0} → Work E A → (A → Work E B) → Work E B
  ok p >>= f = plus p.1 (f p.0)
  fail e >>= f = fail e

  abbrev pub cost : {A : Type 0} → ℕ → A → Work E A
  cost n a = ok (a, n)

  -- a value, or the fault where there is none
  abbrev pub lift : {A : Type 0} → E → Option A → Work E A
  lift e none = fail e
  lift e (some a) = ok (a, 0)

  -- each in turn
  abbrev pub all : {A B : Type 0} → (A → Work E B) → List A → Work E (List B)
  all f [] = cost 0 []
  all f (x ∷ xs) = f x >>= λ y. all f xs >>= λ ys. cost 0 (y ∷ ys)

  -- each in turn, the test first, and the rest of it only where the test is true
  abbrev pub keep : {A B : Type 0} → (A → Work E Bool) → (A → Work E B) → List A → Work E (List B)
  keep f g [] = cost 0 []
  keep f g (x ∷ xs) = f x >>= λ t. cond t (g x >>= λ y. keep f g xs >>= λ ys. cost 0 (y ∷ ys)) (keep f g xs)
