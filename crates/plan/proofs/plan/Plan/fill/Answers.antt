use Rattle.std.proofs.Common.{length, ap, arith}
use Rattle.plan.specs.Filling.{Filling}
use Rattle.plan.specs.Holding.{held}
use Rattle.plan.proofs.Known.{few, frees, has}
use Rattle.plan.proofs.plan.Plan.fill.Goals as goal

pub add_all-requires : goal.add_all-requires
add_all-requires c =
    let p = c.args.program.now in
    record { new = c.clear.ensures; few = rw c.occurrences.ensures (few p); frees = rw (c.types.ensures, c.occurrences.ensures, c.notes.ensures.are) (frees p) }

pub returns : goal.returns
unfolding held
returns c =
    let p = c.args.program.now in
    let e = rw (c.types.ensures, c.occurrences.ensures, c.notes.ensures.are) at c.add_all.ensures.holds in
    record { plans = has p _ e; entries = c.add_all.ensures.few; frees = omega (arith, ap (λ (s : Filling). length s.frees) e, frees p) }
