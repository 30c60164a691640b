-- The occurrences of a run in their order, each with its place and what its evaluations are charged together, and what stands at the end:
-- a value, or the failure of the next occurrence. And what a budget makes of them.
use Rattle.std.specs.Prelude.{ℕ, ◌+◌, ◌<◌, ◌≤◌, Bool, cond, List, [], ◌∷◌, ◌++◌, ◌==◌}
use Rattle.std.proofs.Math.Option.{Option, none, some}
use Rattle.refusal.specs.declared.Refusal.{Refusal}
use Rattle.rules.specs.Outcome.{Outcome, ok, fail}

pub record Charge : Type 0 where
  pub place : ℕ
  pub amount : ℕ

abbrev pub Trace : Type 0 → Type 0
Trace A = List Charge × Outcome Refusal A

abbrev pub and_then : {A B : Type 0} → List Charge → Outcome Refusal A → (A → Trace B) → Trace B
and_then cs (ok a) f = (cs ++ (f a).0, (f a).1)
and_then cs (fail r) f = (cs, fail r)

infixr 20 ◌>>=◌
abbrev pub ◌>>=◌ : {A B : Type 0} → Trace A → (A → Trace B) → Trace B
t >>= f = and_then t.0 t.1 f

abbrev pub give : {A : Type 0} → A → Trace A
give a = ([], ok a)

abbrev pub charge : {A : Type 0} → ℕ → ℕ → A → Trace A
charge p n a = (record { place = p; amount = n } ∷ [], ok a)

abbrev pub test : {A : Type 0} → Refusal → Option A → Trace A
test r none = ([], fail r)
test r (some a) = ([], ok a)

-- each in turn
abbrev pub each_trace : {A B : Type 0} → (A → Trace B) → List A → Trace (List B)
each_trace f [] = give []
each_trace f (x ∷ xs) = f x >>= λ y. each_trace f xs >>= λ ys. give (y ∷ ys)

abbrev pub keep_trace : {A B : Type 0} → (A → Trace Bool) → (A → Trace B) → List A → Trace (List B)
keep_trace f g [] = give []
keep_trace f g (x ∷ xs) = f x >>= λ t. cond t (g x >>= λ y. keep_trace f g xs >>= λ ys. give (y ∷ ys)) (keep_trace f g xs)

-- all charges together
abbrev pub total : List Charge → ℕ
total [] = 0
total (x ∷ xs) = x.amount + total xs

-- what is charged at the place p
abbrev pub picked : ℕ → ℕ → ℕ → ℕ
picked p q n = cond (p == q) n 0

abbrev pub total_at : ℕ → List Charge → ℕ
total_at p [] = 0
total_at p (x ∷ xs) = picked p x.place x.amount + total_at p xs

-- p is the place of the first occurrence with which the charges, c before them, pass the budget
pub data Over (B : ℕ) : ℕ → List Charge → ℕ → Type 0 where
  here : {c : ℕ} {x : Charge} {xs : List Charge} → B < c + x.amount → Over B c (x ∷ xs) x.place
  further : {c p : ℕ} {x : Charge} {xs : List Charge} → c + x.amount ≤ B → Over B (c + x.amount) xs p → Over B c (x ∷ xs) p
