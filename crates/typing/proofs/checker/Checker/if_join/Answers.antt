use Rattle.std.proofs.Common.{subst, rules}
use Rattle.std.proofs.lemmas.Result.{err_from_is_err_and}
use Rattle.types.specs.Table.{Agrees}
use Rattle.judging.specs.Judging.{top, popped}
use Rattle.typing.specs.Holding.{held, type_in}
use Rattle.typing.proofs.Steps.{only_fits, only_not}
use Rattle.typing.proofs.checker.Checker.if_join.Goals as goal

pub returns-in_err-ensure : goal.returns-in_err-ensure
returns-in_err-ensure c =
    let s = held c.args.self.now in
    let differ = subst (λ r. Agrees r (type_in c.parts_used-used.new.self c.top-b.result) (type_in c.parts_used-used.new.self c.top-a.result)) c.in_err-ensure.ensures.0 c.same.ensures.agrees in
    let n = rw (c.top-b.ensures.is, c.top-a.ensures.is, c.parts_used-used.ensures.holds) at differ in
    let r = err_from_is_err_and c.from_residual.result c.from_residual.ensures.1 in
    rw (r.1, r.2, c.in_err-ensure.ensures.1) (λ p. rw (only_not (top s) (top (popped 1 s)) p s n) (search rules))

pub returns : goal.returns
returns c p =
    let s = held c.args.self.now in
    let e = rw (c.top-b.ensures.is, c.top-a.ensures.is, c.parts_used-used.ensures.holds) at (c.same.ensures.decides.0 c.in_ok-ensure.ensures) in
    rw (only_fits (top s) (top (popped 1 s)) p s e) (search rules)
