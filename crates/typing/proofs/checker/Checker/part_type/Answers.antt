use Rattle.std.proofs.Common.{rules}
use Rattle.typing.proofs.checker.Checker.part_type.Goals as goal

pub returns-in_err-expect : goal.returns-in_err-expect
returns-in_err-expect c =
    let n = rw c.int.ensures.is at c.in_err-expect.ensures.0 in rw (c.in_ok-element.ensures, n) (search rules)

pub returns : goal.returns
returns c =
    let l = rw c.int.ensures.is at c.in_ok-expect.ensures in rw (c.in_ok-element.ensures, l) (search rules)
