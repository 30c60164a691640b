-- The rules of nodes over one operand, and over two.
use Rattle.std.specs.Prelude.{[], ◌∷◌}
use Rattle.types.specs.Types.{Ty}
use Rattle.grammar.specs.Tree.{scan, reduce}
use Rattle.lang.specs.Rules.{Verdict, infix_rule, pair_rule, index_rule, part_rule, unary_rule, fold_rule}
use Rattle.typing.specs.declared.checker.nodes.OverOne.{OverOne}
use Rattle.typing.specs.declared.checker.nodes.OverOne.TheVariants.{Apply, Scan, Reduce}
use Rattle.typing.specs.declared.checker.nodes.OverTwo.{OverTwo}
use Rattle.typing.specs.declared.checker.nodes.OverTwo.TheVariants.{Operate, Index, Pair, Part}

abbrev pub one_rule : OverOne → (a : Ty) → Verdict (a ∷ [])
one_rule (Apply o) = unary_rule o
one_rule (Scan o) = fold_rule scan o
one_rule (Reduce o) = fold_rule reduce o

abbrev pub two_rule : OverTwo → (a b : Ty) → Verdict (a ∷ b ∷ [])
two_rule (Operate o) = infix_rule o
two_rule Index = index_rule
two_rule Pair = pair_rule
two_rule Part = part_rule
