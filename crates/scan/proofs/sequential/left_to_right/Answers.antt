use Rattle.std.proofs.Common.{◌∙◌, arith}
use Rattle.std.proofs.lemmas.Grind.{common_steps}
use Rattle.monoid.proofs.Products.{product_more}
use Rattle.scan.proofs.sequential.left_to_right.Goals as goal

pub loop-x-preserved : goal.loop-x-preserved
loop-x-preserved g c =
    let i = c.loop-x.x-index in
    let x = c.x-item.result in
    let inv = c.loop-x.invariant in
    record {
      sum = rw (inv.sum, ← c.x-item.is) at c.combine-next.ensures ∙ product_more g.met.M.Monoid.laws c.args.xs.now i x c.loop-x-test.true (c.x-item.is ∙ inv.from i x (omega arith));
      before = grind (arith, common_steps);
      from = grind (arith, common_steps);
      made = grind (arith, common_steps);
    }
