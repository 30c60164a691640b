use Rattle.std.proofs.Common.{refl, subst, sym}
use Rattle.reader.proofs.Ways.{fails}
use Rattle.program.specs.Stages.{IsChecked}
use Rattle.program.proofs.Stages.{swapped, refused_as}
use Rattle.program.proofs.checked.CheckedProgram.replace.Goals as goal

pub returns-in_err-judge : goal.returns-in_err-judge
returns-in_err-judge c =
    fails _ _ _ c.from_residual-in_err-judge.ensures.1 (refused_as c.in_err-judge.field-0.0 c.in_ok-fill.ensures c.in_err-judge.ensures.judged, refl)

pub invariant_of-self : goal.invariant_of-self
invariant_of-self c = record { sound = subst (λ m. IsChecked m.table m.checker) (sym c.swap.ensures.x_after) c.in_ok-judge.ensures.judged.0 }

pub returns : goal.returns
returns c = swapped _ c.swap.ensures.x_after c.in_ok-judge.ensures.table c.in_ok-fill.ensures c.in_ok-judge.ensures.judged.1
