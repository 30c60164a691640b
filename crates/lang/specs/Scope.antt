-- Names, and what each is bound to.
use Rattle.std.specs.Prelude.{ℕ, Bool, true, false, ◌&&◌, List, [], ◌∷◌, ◌==◌, ◌≢◌}
use Rattle.std.proofs.Math.Option.{Option, none, some}
use Rattle.tokens.specs.declared.kind.Name.{Name}
use Rattle.types.specs.Types.{Ty}
use Rattle.lang.specs.Expr.{Var, here, there}

pub record Binding : Type 0 where
  pub name : Name
  pub type : Ty

abbrev pub bound : Name → Ty → Binding
bound n t = record { name = n; type = t }

-- the types of a scope's variables
abbrev pub kinds : List Binding → List Ty
kinds [] = []
kinds (b ∷ s) = b.type ∷ kinds s

-- the innermost binding of the name n has the type t
pub data Bound : List Binding → Name → Ty → Type 0 where
  inner : {n : Name} {t : Ty} {s : List Binding} → Bound (bound n t ∷ s) n t
  outer : {n m : Name} {t u : Ty} {s : List Binding} → (n ≢ m) → Bound s n t → Bound (bound m u ∷ s) n t

-- names are the same if their bytes are
abbrev pub same_bytes : List ℕ → List ℕ → Bool
same_bytes [] [] = true
same_bytes [] (y ∷ ys) = false
same_bytes (x ∷ xs) [] = false
same_bytes (x ∷ xs) (y ∷ ys) = x == y && same_bytes xs ys

abbrev pub same_name : Name → Name → Bool
same_name n m = same_bytes n.bytes m.bytes

-- the variable that a name stands for
abbrev pub Found : List Binding → Type 0
Found s = (t : Ty) × Var (kinds s) t

abbrev pub further : (b : Binding) (s : List Binding) → Option (Found s) → Option (Found (b ∷ s))
further b s none = none
further b s (some x) = some (x.0, there x.1)

abbrev pub choose : (b : Binding) (s : List Binding) → Bool → Option (Found s) → Option (Found (b ∷ s))
choose b s true x = some (b.type, here)
choose b s false x = further b s x

abbrev pub lookup : (s : List Binding) → Name → Option (Found s)
lookup [] n = none
lookup (b ∷ s) n = choose b s (same_name n b.name) (lookup s n)
