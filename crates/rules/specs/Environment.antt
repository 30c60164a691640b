-- Environments: a value for each variable, innermost first. The operands of a primitive are one too.
use Rattle.std.specs.Prelude.{ℕ, ◌+◌, cond, List, [], ◌∷◌}
use Rattle.types.specs.Types.{Ty}
use Rattle.lang.specs.Values.{Val, size}
use Rattle.lang.specs.Expr.{Var, here, there, Mask}

abbrev pub Env : List Ty → Type 0
Env [] = Unit {0}
Env (t ∷ Γ) = Val t × Env Γ

abbrev pub look : {Γ : List Ty} {t : Ty} → Var Γ t → Env Γ → Val t
look here ρ = ρ.0
look (there x) ρ = look x ρ.1

-- the sizes of all
abbrev pub sizes : (Γ : List Ty) → Env Γ → ℕ
sizes [] ρ = 0
sizes (t ∷ Γ) ρ = size t ρ.0 + sizes Γ ρ.1

-- the sizes of the variables of a set, each once
abbrev pub sizes_in : (Γ : List Ty) → Mask Γ → Env Γ → ℕ
sizes_in [] m ρ = 0
sizes_in (t ∷ Γ) m ρ = cond m.0 (size t ρ.0 + sizes_in Γ m.1 ρ.1) (sizes_in Γ m.1 ρ.1)
