-- Answers and refusals.
use Rattle.std.specs.Prelude.{ℕ}
use Rattle.refusal.specs.declared.Refusal.{Refusal}

-- an answer, or the first refusal
pub data Out (A : Type 0) : Type 0 where
  ok : A → Out A
  refused : Refusal → Out A

abbrev pub then : {A B : Type 0} → Out A → (A → Out B) → Out B
then (ok a) f = f a
then (refused r) f = refused r

abbrev pub refuse : {A : Type 0} → ℕ → ℕ → Out A
refuse n p = refused (record { number = n; place = p })
