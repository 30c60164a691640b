-- The forks of an expression have no more free variables than it weighs.
use Rattle.std.proofs.Common.{ℕ, suc, ◌+◌, ◌≤◌, Bool, true, false, cond, List, [], ◌∷◌, length, arith}
use Rattle.std.proofs.lemmas.List.{length-append}
use Rattle.types.specs.Types.{Ty, int, bool, pair, list, parts}
use Rattle.lang.specs.Expr.{Expr, Args, con, group, var, bind, prim, ite, each, over, nil, more, Mask, union, free}
use Rattle.lang.specs.Weight.{parts_in, weight, weights}
use Rattle.plan.specs.Boxes.{boxed, free_list}
use Rattle.plan.proofs.Blocks.{forked, forkeds}

some_parts : (t : Ty) → 1 ≤ parts t
some_parts int = omega arith
some_parts bool = omega arith
some_parts (pair a b) = omega (arith, some_parts a)
some_parts (list a) = omega arith

listed : (Γ : List Ty) (m : Mask Γ) (n : ℕ) → length (free_list Γ m n) ≤ parts_in Γ m
listed [] m n = omega arith
listed (t ∷ Γ) m n = by m.0 (listed Γ m.1 (suc n))
  where
    by : (b : Bool) → length (free_list Γ m.1 (suc n)) ≤ parts_in Γ m.1 → length (cond b (record { index = n; boxed = boxed t } ∷ free_list Γ m.1 (suc n)) (free_list Γ m.1 (suc n))) ≤ cond b (parts t + parts_in Γ m.1) (parts_in Γ m.1)
    by true h = omega (arith, h, some_parts t)
    by false h = h

mutual
  unfolding forked forkeds weight weights

  pub light : {Γ : List Ty} {t : Ty} (e : Expr Γ t) → length (forked e) ≤ weight e
  light (con p k) = omega arith
  light (group p e) = omega (arith, light e)
  light (var p x) = omega arith
  light (bind p e b) = simp length-append (omega (arith, light e, light b))
  light (prim p o es) = omega (arith, all_light es)
  light (ite {Γ} p c a b) = simp length-append (omega (arith, light c, light a, light b, listed Γ (union Γ (free a) (free b)) 0))
  light (each {Γ} p s f b) = simp length-append (omega (arith, light s, light f, light b, listed Γ (union Γ (free f).1 (free b).1) 0))
  light (over {Γ} p s b) = simp length-append (omega (arith, light s, light b, listed Γ (free b).1 0))

  all_light : {Γ ts : List Ty} (es : Args Γ ts) → length (forkeds es) ≤ weights es
  all_light nil = omega arith
  all_light (more e es) = simp length-append (omega (arith, light e, all_light es))
