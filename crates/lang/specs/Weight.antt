-- Weight: what an expression's evaluation charges, with the parts of types for the sizes of values, one element more
-- than none for a list, each node once and both branches.
use Rattle.std.specs.Prelude.{ℕ, ◌+◌, cond, List, [], ◌∷◌}
use Rattle.types.specs.Types.{Ty, list, parts}
use Rattle.lang.specs.Expr.{Mask, union, free, Expr, Args, con, group, var, bind, prim, ite, each, over, nil, more}

-- the parts of all
abbrev pub parts_of : List Ty → ℕ
parts_of [] = 0
parts_of (t ∷ ts) = parts t + parts_of ts

-- the parts of the variables of a set, each once
abbrev pub parts_in : (Γ : List Ty) → Mask Γ → ℕ
parts_in [] m = 0
parts_in (t ∷ Γ) m = cond m.0 (parts t + parts_in Γ m.1) (parts_in Γ m.1)

unfoldable mutual
  pub weight : {Γ : List Ty} {t : Ty} → Expr Γ t → ℕ
  weight (con p k) = 1
  weight (group p e) = weight e + 1
  weight (var p x) = 1
  weight (bind p e b) = weight e + weight b + 1
  weight (prim {ts = ts} {t = t} p o es) = weights es + (1 + parts_of ts + parts t)
  weight (ite {Γ} {t} p c a b) =
      weight c + (1 + parts_in Γ (union Γ (free a) (free b))) + weight a + weight b + (1 + parts t)
  weight (each {Γ} {a} {b = u} p s f b) =
      weight s + (1 + parts (list a) + parts_in Γ (union Γ (free f).1 (free b).1)) + weight f + weight b + (1 + parts (list u))
  weight (over {Γ} {a} {b = u} p s b) =
      weight s + (1 + parts (list a) + parts_in Γ (free b).1) + weight b + (1 + parts (list u))

  pub weights : {Γ ts : List Ty} → Args Γ ts → ℕ
  weights nil = 0
  weights (more e es) = weight e + weights es
