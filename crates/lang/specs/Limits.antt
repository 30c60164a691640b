-- Expressions within the limits: each node's type has few parts, and each list in brackets few elements.
use Rattle.std.specs.Prelude.{◌≡◌, ◌≤◌, List, length}
use Rattle.types.specs.Types.{Ty, list, parts}
use Rattle.grammar.specs.Tree.{Tree}
use Rattle.lang.specs.Expr.{Expr, Args, con, group, var, bind, prim, ite, each, over, nil, more}
use Rattle.lang.specs.Scope.{Binding, kinds}
use Rattle.lang.specs.Rules.{limit}
use Rattle.lang.specs.Outcome.{ok}
use Rattle.lang.specs.Elaborate.{elaborate}
use Rattle.lang.specs.Laws.{Small}

unfoldable mutual
  pub Limited : {Γ : List Ty} {t : Ty} → Expr Γ t → Type 0
  Limited (con {t = t} p k) = parts t ≤ limit
  Limited (group p e) = Limited e
  Limited (var {t = t} p x) = parts t ≤ limit
  Limited (bind p e b) = Limited e × Limited b
  Limited (prim {ts = ts} {t = t} p o es) = (parts t ≤ limit) × (length ts ≤ limit) × Limiteds es
  Limited (ite p c a b) = Limited c × Limited a × Limited b
  Limited (each {b = u} p s f b) = (parts (list u) ≤ limit) × Limited s × Limited f × Limited b
  Limited (over {b = u} p s b) = (parts (list u) ≤ limit) × Limited s × Limited b

  pub Limiteds : {Γ ts : List Ty} → Args Γ ts → Type 0
  Limiteds nil = Unit {0}
  Limiteds (more e es) = Limited e × Limiteds es

-- elaboration answers no other expressions
abbrev pub LimitsLaw : Type 0
LimitsLaw = (s : List Binding) (e : Tree) (t : Ty) (x : Expr (kinds s) t) → Small s → elaborate e s ≡ ok (t, x) → Limited x
