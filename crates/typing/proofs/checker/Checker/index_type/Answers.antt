use Rattle.std.proofs.Common.{rules}
use Rattle.typing.proofs.checker.Checker.index_type.Goals as goal

pub returns-in_err-expect : goal.returns-in_err-expect
returns-in_err-expect c = rw (c.in_ok-element.ensures, c.in_err-expect.ensures.0) (search rules)

pub returns : goal.returns
returns c = rw (c.in_ok-element.ensures, c.in_ok-expect.ensures) (search rules)
