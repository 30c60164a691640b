-- Elaboration is exact: it answers an expression of a type where the rules give that type, and only there. A tree has one type.
-- What the grammar derives is a phrase.
use Rattle.std.specs.Prelude.{◌≡◌, ℕ, ◌≤◌, ◌↔◌, List, [], ◌∷◌}
use Rattle.tokens.specs.declared.kind.Token.{Token}
use Rattle.types.specs.Types.{Ty, parts}
use Rattle.grammar.specs.Tree.{Tree}
use Rattle.grammar.specs.Grammar.{programs, Derives}
use Rattle.lang.specs.Expr.{Expr}
use Rattle.lang.specs.Scope.{Binding, kinds}
use Rattle.lang.specs.Rules.{limit}
use Rattle.lang.specs.Outcome.{ok}
use Rattle.lang.specs.Elaborate.{elaborate}
use Rattle.lang.specs.Typing.{HasType}
use Rattle.lang.specs.Phrases.{Program}

-- elaboration answers an expression of the type
abbrev pub Elaborates : List Binding → Tree → Ty → Type 0
Elaborates s e t = (x : Expr (kinds s) t) × (elaborate e s ≡ ok (t, x))

abbrev pub TypingLaw : Type 0
TypingLaw = (s : List Binding) (e : Tree) (t : Ty) → Elaborates s e t ↔ HasType s e t

abbrev pub UniqueLaw : Type 0
UniqueLaw = (s : List Binding) (e : Tree) (t u : Ty) → HasType s e t → HasType s e u → t ≡ u

-- the types of a scope have at most 8 parts each
abbrev pub Small : List Binding → Type 0
Small [] = Unit {0}
Small (b ∷ s) = (parts b.type ≤ limit) × Small s

-- and then those of all expressions
abbrev pub SmallLaw : Type 0
SmallLaw = (s : List Binding) (e : Tree) (t : Ty) → Small s → HasType s e t → parts t ≤ limit

-- the trees that the grammar derives for programs are programs
abbrev pub DerivedLaw : Type 0
DerivedLaw = (ts : List Token) (i j : ℕ) (tree : Tree) → Derives ts programs i j tree → Program tree
