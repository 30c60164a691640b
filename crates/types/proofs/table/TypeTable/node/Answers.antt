use Rattle.std.proofs.Common.{sym, subst}
use Rattle.types.specs.Table.{types_in, Shows}
use Rattle.types.proofs.Held.{node_read}
use Rattle.types.proofs.table.TypeTable.node.Goals as goal

pub returns : goal.returns
returns c =
    subst (λ e. Shows (types_in c.args.self.now) c.args.code e.node) (sym c.entry.ensures) (node_read c.args.self.now c.args.code)
