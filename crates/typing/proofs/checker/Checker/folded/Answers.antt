use Rattle.std.proofs.Common.{rules}
use Rattle.typing.proofs.checker.Checker.folded.Goals as goal

pub returns-in_err-expect : goal.returns-in_err-expect
returns-in_err-expect c =
    let n = rw c.joined.ensures at c.in_err-expect.ensures.0 in rw (c.in_ok-element.ensures, n) (search rules)
