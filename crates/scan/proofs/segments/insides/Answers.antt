use Rattle.std.proofs.Common.{◌+◌, ◌≤◌, ◌∙◌, refl, arith, length, get_or, rules}
use Rattle.monoid.specs.Segments.{running, scanned}
use Rattle.monoid.proofs.Segments.{reached_more, part_long, part_put, fits}
use Rattle.scan.proofs.Reading.{inside_is}
use Rattle.scan.proofs.segments.insides.Goals as goal

pub slice_bounds-inside-end : goal.slice_bounds-inside-end
slice_bounds-inside-end g c =
    let within : c.loop-n.at + get_or c.args.segments.now.lengths.now c.loop-n.n-index 0 ≤ length c.args.places.now =
    omega (arith, fits _ _ _ _ c.loop-n.invariant.0 c.loop-n-test.true, c.requires.room.0) in
    search rules

pub loop-n-preserved : goal.loop-n-preserved
loop-n-preserved g c =
    let m = g.M.Monoid in
    let v = c.args.segments.now.elements.now in
    let d = c.args.segments.now.lengths.now in
    let at = c.loop-n.at in
    let j = c.loop-n.n-index in
    let so_far = c.loop-n.invariant.0 in
    let h = c.loop-n-test.true in
    let room = c.loop-n.auto.out ∙ c.requires.room.1 in (
      reached_more v d j at so_far h,
      part_put v d j at so_far h (scanned m.unit m.op) (running m.op m.unit) (λ xs xss. refl) _ c.loop-n.out c.inside.new.out room c.inside.auto.out
          (inside_is g.met.M.Monoid.laws v d j at so_far h _ c.requires.places c.requires.room.0 _ (c.inside.auto.out ∙ part_long v d j at so_far h c.loop-n.out room) c.inside.ensures) c.loop-n.invariant.1,
    )
