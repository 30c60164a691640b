-- Which programs are accepted.
use Rattle.std.specs.Prelude.{◌≡◌, ℕ, ◌≤◌, ◌↔◌, [], ◌∷◌}
use Rattle.tokens.specs.declared.kind.Name.{Name}
use Rattle.types.specs.Types.{parts}
use Rattle.grammar.specs.Tree.{Tree}
use Rattle.lang.specs.Weight.{weight}
use Rattle.lang.specs.Scope.{bound}
use Rattle.lang.specs.Rules.{limit}
use Rattle.lang.specs.Outcome.{ok}
use Rattle.lang.specs.Written.{Writes}
use Rattle.lang.specs.Elaborate.{elaborate}
use Rattle.lang.specs.Check.{Checked, heaviest, check}
use Rattle.lang.specs.Typing.{HasType}

-- a program with the parameter n of type a, the result type b and the body e: the types have at most 8 parts, the body has the
-- declared type where the parameter is in scope, and the whole weighs at most 2,000
pub record Accepts (n : Name) (a b e : Tree) (c : Checked) : Type 0 where
  pub parameter : (p : ℕ) × Writes a p c.parameter
  pub result : (p : ℕ) × Writes b p c.result
  pub small_parameter : parts c.parameter ≤ limit
  pub small_result : parts c.result ≤ limit
  pub typed : HasType (bound n c.parameter ∷ []) e c.result
  pub body_is : elaborate e (bound n c.parameter ∷ []) ≡ ok (c.result, c.body)
  pub weight_is : c.weight ≡ weight c.body
  pub light : weight c.body ≤ heaviest

abbrev pub CheckLaw : Type 0
CheckLaw = (x r : ℕ) (n : Name) (a b e : Tree) (c : Checked) → (check (Tree.program x n r a b e) ≡ ok c) ↔ Accepts n a b e c
