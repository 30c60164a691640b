-- One occurrence adds at most one to each part of a table, and the free variables only become more.
use Rattle.std.proofs.Common.{◌≡◌, ℕ, ◌+◌, ◌<◌, ◌≤◌, List, [], ◌∷◌, length, sym, subst, arith}
use Rattle.std.proofs.lemmas.Grind.{common_steps}
use Rattle.judging.specs.Acts.{TypedOccurrence}
use Rattle.plan.specs.Filling.{Filling, one, run}
use Rattle.plan.specs.Holding.{Room}

frees_grow : (o : TypedOccurrence) (s : Filling) → length s.frees ≤ length (one o s).frees
frees_grow o s = grind (arith, common_steps)

pub run_frees : (xs : List TypedOccurrence) (s : Filling) → length s.frees ≤ length (run xs s).frees
run_frees [] s = omega arith
run_frees (x ∷ xs) s = omega (arith, frees_grow x s, run_frees xs (one x s))

-- after n occurrences
pub record Small (n : ℕ) (s : Filling) : Type 0 where
  pub entries : length s.entries ≤ n
  pub scope : length s.scope ≤ n
  pub forks : length s.forks ≤ n
  pub uses : length s.uses ≤ n

small_next : (n : ℕ) (o : TypedOccurrence) (s : Filling) → Small n s → Small (n + 1) (one o s)
small_next n o s h = grind (arith, common_steps)

pub small_more : (n : ℕ) (o : TypedOccurrence) (s : Filling) {t : Filling} → Small n s → t ≡ one o s → Small (n + 1) t
small_more n o s h e = subst (Small (n + 1)) (sym e) (small_next n o s h)

pub roomy : (n : ℕ) (s : Filling) → n < 1024 → Small n s → Room s
roomy n s l h = grind (arith, common_steps)
