use Rattle.std.proofs.Common.{rules}
use Rattle.typing.proofs.checker.Checker.unary_type.Goals as goal

pub returns-in_ok-left-in-Fst : goal.returns-in_ok-left-in-Fst
returns-in_ok-left-in-Fst c = rw c.in_ok-left-in-Fst.ensures (search rules)

pub returns-in_ok-right-in-Snd : goal.returns-in_ok-right-in-Snd
returns-in_ok-right-in-Snd c = rw c.in_ok-right-in-Snd.ensures (search rules)

pub returns-in_ok-element-in-Len : goal.returns-in_ok-element-in-Len
returns-in_ok-element-in-Len c = rw c.in_ok-element-in-Len.ensures (search rules)

pub returns-in_ok-expect-in-Range : goal.returns-in_ok-expect-in-Range
returns-in_ok-expect-in-Range c = rw c.in_ok-expect-in-Range.ensures (search rules)

pub returns-in_ok-element-in-Flat : goal.returns-in_ok-element-in-Flat
returns-in_ok-element-in-Flat c = rw (c.in_ok-inner-in-Flat.ensures, c.in_ok-element-in-Flat.ensures) (search rules)
