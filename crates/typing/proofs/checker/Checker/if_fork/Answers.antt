use Rattle.std.proofs.Common.{rules}
use Rattle.std.proofs.lemmas.Result.{err_from_is_err_and}
use Rattle.types.specs.Types.{bool}
use Rattle.judging.specs.Judging.{top}
use Rattle.typing.specs.Holding.{held}
use Rattle.typing.proofs.Steps.{only_fits, only_not}
use Rattle.typing.proofs.checker.Checker.if_fork.Goals as goal

pub returns-in_err-expect : goal.returns-in_err-expect
returns-in_err-expect c =
    let s = held c.args.self.now in
    let r = err_from_is_err_and c.from_residual.result c.from_residual.ensures.1 in
    let n = rw c.top.ensures.is at c.in_err-expect.ensures.0 in
    rw (r.1, r.2) (λ p. rw (only_not (top s) bool p s n) (search rules))

pub returns : goal.returns
returns c p =
    let s = held c.args.self.now in
    let e = rw c.top.ensures.is at c.in_ok-expect.ensures in
    rw (only_fits (top s) bool p s e) (search rules)
