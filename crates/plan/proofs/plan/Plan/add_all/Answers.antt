use Rattle.std.proofs.Common.{length, ap, inl, inr, arith}
use Rattle.std.proofs.lemmas.List.{length_push}
use Rattle.plan.specs.Holding.{held}
use Rattle.plan.proofs.Growing.{small_more}
use Rattle.plan.proofs.Turns.{turn, turn_frees, turned}
use Rattle.plan.proofs.plan.Plan.add_all.Goals as goal

pub step-requires-clause-frees : goal.step-requires-clause-frees
step-requires-clause-frees c =
    let e = c.in-Some.ensures.steps in
    turn_frees _ _ _ _ _ c.loop-o.invariant.0 c.in-Some.o.now _ c.in-Some.note.now _ _ e.0 e.1 c.get.ensures 2000 c.requires.frees

pub loop-o-preserved : goal.loop-o-preserved
loop-o-preserved c =
    let e = c.in-Some.ensures.steps in
    rw length_push (
      turn _ _ _ _ _ c.loop-o.invariant.0 c.in-Some.o.now _ c.in-Some.note.now _ _ e.0 e.1 c.get.ensures c.step.ensures,
      small_more (length c.loop-o.yielded) _ (held c.loop-o.self) c.loop-o.invariant.1 c.step.ensures,
      omega (arith, ap length e.0),
    )

pub returns-clause-holds : goal.returns-clause-holds
returns-clause-holds c = turned _ _ _ _ _ c.loop-o.invariant.0 (elim c.in-None.ensures.steps [ inl h ↦ inl h.1.0 | inr h ↦ inr h.1.0 ])
