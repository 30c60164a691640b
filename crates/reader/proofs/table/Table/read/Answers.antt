use Rattle.std.proofs.Common.{sym, ◌∙◌}
use Rattle.reader.proofs.Ways.{fails}
use Rattle.reader.proofs.Exact.{same-table, no_table}
use Rattle.reader.proofs.table.Table.read.Goals as goal

pub returns-in_err-parse-clause-exact : goal.returns-in_err-parse-clause-exact
returns-in_err-parse-clause-exact c = fails _ _ _ c.from_residual.ensures.1 (λ os h. no_table (λ us x. c.cut.ensures.only us x ∙ sym c.as_slice.ensures.value) c.in_err-parse.ensures.reads h)

pub returns-clause-exact : goal.returns-clause-exact
returns-clause-exact c = λ os h. same-table (λ us x. c.cut.ensures.only us x ∙ sym c.as_slice.ensures.value) c.in_ok-parse.ensures.reads h
