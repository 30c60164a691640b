use Rattle.std.proofs.Common.{ap, refl, ◌∙◌}
use Rattle.std.proofs.lemmas.Result.{err_from_is_err_and}
use Rattle.judging.specs.Judging.{joined, left}
use Rattle.typing.specs.Holding.{held}
use Rattle.typing.proofs.Steps.{each_ok, each_large}
use Rattle.typing.proofs.checker.Checker.each_join.Goals as goal

pub returns-in_err-count : goal.returns-in_err-count
returns-in_err-count c =
    let r = err_from_is_err_and c.from_residual.result c.from_residual.ensures.1 in
    rw (r.1, r.2) (λ p. rw (rw c.parts_used-used.ensures.holds at c.in_err-count.ensures p) refl)

pub returns-in_err-ensure : goal.returns-in_err-ensure
returns-in_err-ensure c =
    let s = held c.args.self.now in
    let l = rw (c.count.ensures, c.top.ensures.is, c.parts_used-used.ensures.holds) at c.in_err-ensure.ensures.0 in
    let r = err_from_is_err_and c.from_residual-in_err-ensure.result c.from_residual-in_err-ensure.ensures.1 in
    rw (r.1, r.2, c.in_err-ensure.ensures.1) (λ p. each_large s p _ (rw c.parts_used-used.ensures.holds at c.in_ok-count.ensures p) l)

pub returns : goal.returns
returns c p =
    let s = held c.args.self.now in
    let l = rw (c.count.ensures, c.top.ensures.is, c.parts_used-used.ensures.holds) at c.in_ok-ensure.ensures in
    let e = rw (c.top.ensures.is, c.parts_used-used.ensures.holds) at c.node.ensures in
    each_ok s p _ (rw c.parts_used-used.ensures.holds at c.in_ok-count.ensures p) _ _ l c.parts_used-used.ensures.is (c.close.ensures ∙ ap joined (c.leave.ensures ∙ ap left e))
