use Rattle.std.proofs.Common.{rules}
use Rattle.typing.proofs.checker.Checker.infix_type.Goals as goal

pub returns-in_err-expect-2 : goal.returns-in_err-expect-2
returns-in_err-expect-2 c = rw (c.in_ok-expect.ensures, c.in_err-expect-2.ensures.0) (search rules)

pub returns : goal.returns
returns c = rw (c.in_ok-expect.ensures, c.in_ok-expect-2.ensures) (search rules)
