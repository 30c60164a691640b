use Rattle.std.proofs.Common.{◌≡◌, ◌++◌, take, drop}
use Rattle.monoid.specs.Segments.{cut, scanned}
use Rattle.monoid.proofs.Segments.{Reached}
use Rattle.scan.proofs.segments.insides.Given as goal

abbrev pub invariant-loop-n : goal.invariant-loop-n
invariant-loop-n g l =
    let m = g.M.Monoid in
    let v = l.segments.elements.now in
    let d = l.segments.lengths.now in
    Reached v d l.n-index l.at × (take l.at l.out ++ scanned m.unit m.op (cut (drop l.at v) (drop l.n-index d)) ≡ scanned m.unit m.op (cut v d))
