-- A whole program: its header, its body, its weight.
use Rattle.std.specs.Prelude.{ℕ, cond, [], ◌∷◌, nat_le}
use Rattle.std.proofs.Math.Option.{Option, none, some}
use Rattle.types.specs.Types.{Ty, parts, same}
use Rattle.grammar.specs.Tree.{Tree}
use Rattle.lang.specs.Expr.{Expr}
use Rattle.lang.specs.Weight.{weight}
use Rattle.lang.specs.Scope.{bound}
use Rattle.lang.specs.Rules.{limit}
use Rattle.lang.specs.Outcome.{Out, ok, then, refuse}
use Rattle.lang.specs.Written.{Written, written}
use Rattle.lang.specs.Elaborate.{Typed, elaborate}

-- a program that may be run: its parameter's type, its result's, its body, and the body's weight
pub record Checked : Type 0 where
  pub parameter : Ty
  pub result : Ty
  pub body : Expr (parameter ∷ []) result
  pub weight : ℕ

-- a type of the header, judged at its first byte
abbrev pub header : Option Written → Out Ty
header none = refuse 6 0
header (some x) = cond (nat_le (parts x.1) limit) (ok x.1) (refuse 7 x.0)

-- the body has the declared type
abbrev pub at_result : {a t u : Ty} → Option (Id Ty t u) → Expr (a ∷ []) t → Out (Expr (a ∷ []) u)
at_result none e = refuse 8 0
at_result (some refl) e = ok e

abbrev pub declared : {a : Ty} (u : Ty) → Typed (a ∷ []) → Out (Expr (a ∷ []) u)
declared u x = at_result (same x.0 u) x.1

abbrev pub heaviest : ℕ
heaviest = 2000

-- the whole is not too heavy
abbrev pub weighed : (a u : Ty) → Expr (a ∷ []) u → Out Checked
weighed a u e = cond (nat_le (weight e) heaviest) (ok (record { parameter = a; result = u; body = e; weight = weight e })) (refuse 9 0)

-- the header from the left, the body, then the body's type against the declared one, then the weight
unfoldable pub check : Tree → Out Checked
check (Tree.program x n r a b e) =
    then (header (written a)) λ t. then (header (written b)) λ u. then (elaborate e (bound n t ∷ [])) λ y.
    then (declared u y) λ e. weighed t u e
check (Tree.number _ _) = refuse 6 0
check (Tree.truth _ _) = refuse 6 0
check (Tree.variable _ _) = refuse 6 0
check (Tree.bind _ _ _ _) = refuse 6 0
check (Tree.choice _ _ _ _) = refuse 6 0
check (Tree.each _ _ _ _) = refuse 6 0
check (Tree.sieve _ _ _ _ _) = refuse 6 0
check (Tree.operate _ _ _ _) = refuse 6 0
check (Tree.apply _ _ _) = refuse 6 0
check (Tree.fold _ _ _ _) = refuse 6 0
check (Tree.index _ _ _) = refuse 6 0
check (Tree.group _ _) = refuse 6 0
check (Tree.pair _ _ _) = refuse 6 0
check (Tree.part _ _ _) = refuse 6 0
check (Tree.empty _ _) = refuse 6 0
check (Tree.list _ _) = refuse 6 0
check (Tree.first _) = refuse 6 0
check (Tree.more _ _) = refuse 6 0
check (Tree.int _) = refuse 6 0
check (Tree.bool _) = refuse 6 0
check (Tree.both _ _ _) = refuse 6 0
check (Tree.many _ _) = refuse 6 0
