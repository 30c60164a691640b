use Rattle.std.proofs.Common.{ap, ◌∙◌, arith}
use Rattle.types.proofs.Held.{sized}
use Rattle.types.proofs.table.TypeTable.parts_at.Goals as goal

pub index-requires : goal.index-requires
index-requires c = omega (arith, c.requires, sized c.args.self.now)

pub returns : goal.returns
returns c =
    let t = c.args.self.now in
    ap (λ e. e.count) c.index.ensures ∙ t.counts c.args.code _ (omega (arith, c.requires, sized t))
