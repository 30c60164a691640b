-- Written types.
use Rattle.std.proofs.Math.Option.{Option, none, some}
use Rattle.std.specs.Prelude.{ℕ}
use Rattle.types.specs.Types.{Ty, int, bool, pair, list}
use Rattle.grammar.specs.Tree.{Tree}

-- the tree is the type t, written from the place p on
pub data Writes : Tree → ℕ → Ty → Type 0 where
  writes_int : {p : ℕ} → Writes (Tree.int p) p int
  writes_bool : {p : ℕ} → Writes (Tree.bool p) p bool
  writes_pair : {p q r : ℕ} {x y : Tree} {a b : Ty} → Writes x q a → Writes y r b → Writes (Tree.both p x y) p (pair a b)
  writes_list : {p q : ℕ} {x : Tree} {a : Ty} → Writes x q a → Writes (Tree.many p x) p (list a)

-- a written type with its first byte's place; nothing for a tree that is no type
abbrev pub Written : Type 0
Written = ℕ × Ty

abbrev pub both : ℕ → Option Written → Option Written → Option Written
both p none y = none
both p (some x) none = none
both p (some x) (some y) = some (p, pair x.1 y.1)

abbrev pub many : ℕ → Option Written → Option Written
many p none = none
many p (some x) = some (p, list x.1)

unfoldable pub written : Tree → Option Written
written (Tree.int p) = some (p, int)
written (Tree.bool p) = some (p, bool)
written (Tree.both p a b) = both p (written a) (written b)
written (Tree.many p a) = many p (written a)
written (Tree.number _ _) = none
written (Tree.truth _ _) = none
written (Tree.variable _ _) = none
written (Tree.bind _ _ _ _) = none
written (Tree.choice _ _ _ _) = none
written (Tree.each _ _ _ _) = none
written (Tree.sieve _ _ _ _ _) = none
written (Tree.operate _ _ _ _) = none
written (Tree.apply _ _ _) = none
written (Tree.fold _ _ _ _) = none
written (Tree.index _ _ _) = none
written (Tree.group _ _) = none
written (Tree.pair _ _ _) = none
written (Tree.part _ _ _) = none
written (Tree.empty _ _) = none
written (Tree.list _ _) = none
written (Tree.first _) = none
written (Tree.more _ _) = none
written (Tree.program _ _ _ _ _ _) = none
