use Rattle.std.proofs.Common.{◌<◌, [], ◌∷◌, ◌++◌, ◌∙◌, ap, refl, arith, length, take}
use Rattle.std.proofs.lemmas.List.{take_more_set}
use Rattle.monoid.specs.Laws.{product}
use Rattle.monoid.specs.Segments.{reduced}
use Rattle.monoid.proofs.Segments.{reached_more, part_more}
use Rattle.scan.proofs.Reading.{end_is}
use Rattle.scan.proofs.segments.ends.Goals as goal

pub loop-j-preserved : goal.loop-j-preserved
loop-j-preserved g c =
    let m = g.M.Monoid in
    let v = c.args.segments.now.elements.now in
    let d = c.args.segments.now.lengths.now in
    let j = c.loop-j.j in
    let out = c.loop-j.out in
    let so_far = c.loop-j.invariant.0 in
    let lt : j < length out = omega arith in (
      reached_more v d j _ so_far c.loop-j-test.true,
      part_more v d j _ so_far c.loop-j-test.true (reduced m.unit m.op) (λ xs. product m.unit m.op xs ∷ []) (λ xs xss. refl) _ (take j out) _
          (take_more_set out j c.product_of.result lt ∙ ap (λ x. take j out ++ (x ∷ []))
          (c.product_of.ensures ∙ end_is g.met.M.Monoid.laws v d j _ so_far c.loop-j-test.true _ c.requires.places c.args.all c.requires.all)) c.loop-j.invariant.1,
    )
