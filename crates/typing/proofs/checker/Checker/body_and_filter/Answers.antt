use Rattle.std.proofs.Common.{sym, ap, ◌∙◌, rules}
use Rattle.std.proofs.lemmas.Result.{err_from_is_err_and}
use Rattle.types.specs.Types.{bool}
use Rattle.lang.specs.Outcome.{ok}
use Rattle.judging.specs.Judging.{top, popped}
use Rattle.typing.specs.Holding.{held}
use Rattle.typing.proofs.Steps.{only_fits, only_not, popped-twice}
use Rattle.typing.proofs.checker.Checker.body_and_filter.Goals as goal

pub returns-in_err-expect : goal.returns-in_err-expect
returns-in_err-expect c =
    let s = popped 1 (held c.args.self.now) in
    let filtered = sym (ap (λ f. f.filtered) c.last_fork.ensures.is) ∙ c.if-last_fork.true in
    let n = rw c.top.ensures.is at c.in_err-expect.ensures.0 in
    let r = err_from_is_err_and c.from_residual.result c.from_residual.ensures.1 in
    rw (r.1, r.2) (λ p. rw (filtered, only_not (top s) bool p (popped 1 s) n) (search rules))

pub returns-in_ok-expect : goal.returns-in_ok-expect
returns-in_ok-expect c p =
    let s = popped 1 (held c.args.self.now) in
    let filtered = sym (ap (λ f. f.filtered) c.last_fork.ensures.is) ∙ c.if-last_fork.true in
    let e = rw c.top.ensures.is at c.in_ok-expect.ensures in
    rw (filtered, only_fits (top s) bool p (popped 1 s) e) (ap ok (popped-twice (held c.args.self.now)))
