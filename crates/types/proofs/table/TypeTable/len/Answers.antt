use Rattle.std.proofs.Common.{sym, ◌∙◌}
use Rattle.types.proofs.Held.{sized}
use Rattle.types.proofs.table.TypeTable.len.Goals as goal

pub returns : goal.returns
returns c = c.len.ensures ∙ sym (sized c.args.self.now)
