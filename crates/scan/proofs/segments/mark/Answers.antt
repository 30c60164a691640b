use Rattle.std.proofs.Common.{◌≡◌, ◌+◌, ◌-◌, ap, refl, ◌∙◌, arith, get_or, drop, take}
use Rattle.monoid.specs.Segments.{places, marked}
use Rattle.monoid.proofs.Segments.{reached_more, part_put}
use Rattle.scan.proofs.segments.mark.Goals as goal

pub loop-n-preserved : goal.loop-n-preserved
loop-n-preserved g c =
    let v = c.args.segments.now.elements.now in
    let d = c.args.segments.now.lengths.now in
    let at = c.loop-n.at in
    let j = c.loop-n.n-index in
    let so_far = c.loop-n.invariant.0 in
    let size : at + get_or d j 0 - at ≡ get_or d j 0 = omega arith in (
      reached_more v d j at so_far c.loop-n-test.true,
      part_put v d j at so_far c.loop-n-test.true places marked (λ xs xss. refl) _ c.loop-n.places c.mark_segment.new.places (c.loop-n.auto.places ∙ c.requires) c.mark_segment.auto.places
          (c.mark_segment.ensures ∙ ap (λ k. marked (take k (drop at v))) size) c.loop-n.invariant.1,
    )
