-- What an evaluation of a node is charged.
use Rattle.std.specs.Prelude.{ℕ, suc, ◌+◌, ◌*◌, List, ◌∷◌, length}
use Rattle.types.specs.Types.{Ty, bool, list}
use Rattle.lang.specs.Values.{Val, size}
use Rattle.lang.specs.Expr.{Expr, union, free}
use Rattle.rules.specs.Environment.{Env, sizes, sizes_in}

-- a primitive: 1, the sizes of its operands, the size of its result
abbrev pub prim_charge : (ts : List Ty) (t : Ty) → Env ts → Val t → ℕ
prim_charge ts t vs v = 1 + sizes ts vs + size t v

-- the fork of an if: 1 and the sizes of the free variables of both branches
abbrev pub ite_fork : {Γ : List Ty} {t : Ty} → Expr Γ t → Expr Γ t → Env Γ → ℕ
ite_fork {Γ} a b ρ = 1 + sizes_in Γ (union Γ (free a) (free b)) ρ

-- the fork of a comprehension: 1, the size of its list, and the sizes of the free variables once for each element and once more
abbrev pub fork_each : {Γ : List Ty} {a b : Ty} → Expr (a ∷ Γ) bool → Expr (a ∷ Γ) b → Env Γ → List (Val a) → ℕ
fork_each {Γ} {a} f b ρ xs = 1 + size (list a) xs + suc (length xs) * sizes_in Γ (union Γ (free f).1 (free b).1) ρ

abbrev pub over_fork : {Γ : List Ty} {a b : Ty} → Expr (a ∷ Γ) b → Env Γ → List (Val a) → ℕ
over_fork {Γ} {a} b ρ xs = 1 + size (list a) xs + suc (length xs) * sizes_in Γ (free b).1 ρ

-- a join: 1 and the size of the result
abbrev pub join_charge : (t : Ty) → Val t → ℕ
join_charge t v = 1 + size t v
