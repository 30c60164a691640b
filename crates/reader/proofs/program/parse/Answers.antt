use Rattle.std.proofs.Common.{sym, refl, ◌∙◌, rules}
use Rattle.reader.proofs.Ways.{fails}
use Rattle.reader.proofs.Whole.{accepted, rejected, broken}
use Rattle.reader.proofs.program.parse.Goals as goal

pub returns-in_err-program-clause-reads : goal.returns-in_err-program-clause-reads
returns-in_err-program-clause-reads c = fails _ _ _ c.from_residual.ensures.1 (broken c.in_err-program.ensures refl)

pub returns-in-End-clause-reads : goal.returns-in-End-clause-reads
returns-in-End-clause-reads c =
    let a = c.in_ok-program.ensures in
    let lender = sym a.way.kept.lender in
    let h = accepted a refl c.requires.empty c.requires.stops.1 (sym c.peek.ensures ∙ c.in-End.is) in
    let table = h.table in
    record { program = h.program; table = search rules }

pub returns-in_default-clause-reads : goal.returns-in_default-clause-reads
returns-in_default-clause-reads c = rejected c.in_ok-program.ensures refl (λ x. c.in_default.not-End (c.peek.ensures ∙ x)) c.refusal.ensures
