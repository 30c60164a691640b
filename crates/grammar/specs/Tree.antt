-- The trees of programs, and the occurrences of a tree in the order of evaluation.
use Rattle.std.specs.Prelude.{ℕ, ◌+◌, Bool, cond, List, [], ◌∷◌, ◌++◌}
use Rattle.tokens.specs.declared.kind.Name.{Name}
use Rattle.grammar.specs.declared.occurrence.Infix.{Infix}
use Rattle.grammar.specs.declared.occurrence.Unary.{Unary}
use Rattle.grammar.specs.declared.occurrence.Operation.{Operation}
use Rattle.grammar.specs.declared.occurrence.What.{What}
use Rattle.grammar.specs.declared.occurrence.Occurrence.{Occurrence}

-- what an operation of joining is used for
pub data Fold : Type 0 where
  scan reduce : Fold

-- a tree; the first number is the place of the node's own token
pub data Tree : Type 0 where
  number : ℕ → ℕ → Tree
  truth : ℕ → Bool → Tree
  variable : ℕ → Name → Tree
  bind : ℕ → Name → Tree → Tree → Tree
  choice : ℕ → Tree → Tree → Tree → Tree
  each : ℕ → Name → Tree → Tree → Tree
  sieve : ℕ → Name → Tree → Tree → Tree → Tree
  operate : ℕ → Infix → Tree → Tree → Tree
  apply : ℕ → Unary → Tree → Tree
  fold : ℕ → Fold → Operation → Tree → Tree
  index : ℕ → Tree → Tree → Tree
  group : ℕ → Tree → Tree
  pair : ℕ → Tree → Tree → Tree
  part : ℕ → Tree → Tree → Tree
  empty : ℕ → Tree → Tree
  list : ℕ → Tree → Tree
  -- the elements of a list: the first, and one more
  first : Tree → Tree
  more : Tree → Tree → Tree
  -- types
  int : ℕ → Tree
  bool : ℕ → Tree
  both : ℕ → Tree → Tree → Tree
  many : ℕ → Tree → Tree
  -- the place of the parameter's type, its name, the place of the result type; the parameter's type, the result type, the body
  program : ℕ → Name → ℕ → Tree → Tree → Tree → Tree

-- how many elements
abbrev pub count : Tree → ℕ
count (first _) = 1
count (more a _) = count a + 1
count (number _ _) = 0
count (truth _ _) = 0
count (variable _ _) = 0
count (bind _ _ _ _) = 0
count (choice _ _ _ _) = 0
count (each _ _ _ _) = 0
count (sieve _ _ _ _ _) = 0
count (operate _ _ _ _) = 0
count (apply _ _ _) = 0
count (fold _ _ _ _) = 0
count (index _ _ _) = 0
count (group _ _) = 0
count (pair _ _ _) = 0
count (part _ _ _) = 0
count (empty _ _) = 0
count (list _ _) = 0
count (int _) = 0
count (bool _) = 0
count (both _ _ _) = 0
count (many _ _) = 0
count (program _ _ _ _ _ _) = 0

abbrev pub occ : What → ℕ → List Occurrence
occ w p = record { what = w; place = p } ∷ []

abbrev pub folding : Fold → Operation → What
folding scan o = What.Scan o
folding reduce o = What.Reduce o

-- operands from the left, then the node; a comprehension's list goes before its filter and its body
abbrev pub occs : Tree → List Occurrence
occs (number p v) = occ (What.Number v) p
occs (truth p b) = occ (cond b What.True What.False) p
occs (variable p n) = occ (What.Variable n) p
occs (bind p n e r) = occs e ++ occ (What.Bind n) p ++ occs r ++ occ What.LetEnd p
occs (choice p c a b) = occs c ++ occ What.IfFork p ++ occs a ++ occ What.IfElse p ++ occs b ++ occ What.IfJoin p
occs (each p n b s) = occs s ++ occ (What.EachFork n) p ++ occs b ++ occ What.EachJoin p
occs (sieve p n b s f) = occs s ++ occ (What.EachFork n) p ++ occs f ++ occ What.EachFilter p ++ occs b ++ occ What.EachJoin p
occs (operate p o a b) = occs a ++ occs b ++ occ (What.Operate o) p
occs (apply p o a) = occs a ++ occ (What.Apply o) p
occs (fold p f o a) = occs a ++ occ (folding f o) p
occs (index p a b) = occs a ++ occs b ++ occ What.Index p
occs (group p a) = occs a ++ occ What.Group p
occs (pair p a b) = occs a ++ occs b ++ occ What.Pair p
occs (part p a b) = occs a ++ occs b ++ occ What.Part p
occs (empty p t) = occs t ++ occ What.Empty p
occs (list p a) = occs a ++ occ (What.List (count a)) p
occs (first a) = occs a
occs (more a b) = occs a ++ occs b
occs (int p) = occ What.TypeInt p
occs (bool p) = occ What.TypeBool p
occs (both p a b) = occs a ++ occs b ++ occ What.TypePair p
occs (many p a) = occs a ++ occ What.TypeList p
occs (program x n r a b e) = occs a ++ occ (What.Parameter n) x ++ occs b ++ occ What.Result r ++ occs e
