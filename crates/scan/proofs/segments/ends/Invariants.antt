use Rattle.std.proofs.Common.{◌≡◌, ◌++◌, take, drop}
use Rattle.monoid.specs.Segments.{cut, reduced}
use Rattle.monoid.proofs.Segments.{Reached}
use Rattle.scan.proofs.segments.ends.Given as goal

abbrev pub invariant-loop-j : goal.invariant-loop-j
invariant-loop-j g l =
    let m = g.M.Monoid in
    let v = l.segments.elements.now in
    let d = l.segments.lengths.now in
    Reached v d l.j l.end × (take l.j l.out ++ reduced m.unit m.op (cut (drop l.end v) (drop l.j d)) ≡ reduced m.unit m.op (cut v d))
