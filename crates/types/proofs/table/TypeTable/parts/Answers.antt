use Rattle.std.proofs.Common.{ap, ◌∙◌}
use Rattle.types.proofs.Held.{count_read}
use Rattle.types.proofs.table.TypeTable.parts.Goals as goal

pub returns : goal.returns
returns c = ap (λ e. e.count) c.entry.ensures ∙ count_read c.args.self.now c.args.code
