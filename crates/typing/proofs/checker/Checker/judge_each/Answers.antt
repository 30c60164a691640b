use Rattle.std.proofs.Common.{sym, ◌∙◌, arith}
use Rattle.std.proofs.lemmas.List.{at_drop_all}
use Rattle.std.proofs.lemmas.Result.{err_from_is_err_and}
use Rattle.judging.specs.Judging.{judge}
use Rattle.typing.specs.Holding.{held}
use Rattle.typing.proofs.Ending.{judged_more, refused_here}
use Rattle.typing.proofs.Growing.{small_more}
use Rattle.typing.proofs.checker.Checker.judge_each.Goals as goal

pub returns-in_err-judge_one : goal.returns-in_err-judge_one
returns-in_err-judge_one c =
    let r = err_from_is_err_and c.from_residual.result c.from_residual.ensures.1 in
    rw (r.1, r.2) (sym c.loop-o.invariant.leads ∙ refused_here c.args.occurrences.now c.loop-o.o-index (held c.loop-o.self) _ c.loop-o-test.true _ c.in_err-judge_one.ensures)

pub loop-o-preserved : goal.loop-o-preserved
loop-o-preserved c = record {
  leads = judged_more c.args.occurrences.now c.loop-o.o-index (held c.loop-o.self) _ c.loop-o-test.true _ c.in_ok-judge_one.ensures ∙ c.loop-o.invariant.leads;
  small = small_more c.loop-o.o-index _ _ (held c.loop-o.self) _ (omega (arith, c.requires.few, c.loop-o-test.true)) c.loop-o.invariant.small c.in_ok-judge_one.ensures;
}

pub returns : goal.returns
returns c =
    sym c.loop-o.invariant.leads ∙ at_drop_all (λ l. judge l (held c.loop-o.self)) c.args.occurrences.now c.loop-o.o-index c.loop-o-test.false
