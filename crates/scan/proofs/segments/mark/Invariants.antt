use Rattle.std.proofs.Common.{◌≡◌, ◌++◌, take, drop}
use Rattle.monoid.specs.Segments.{cut, places}
use Rattle.monoid.proofs.Segments.{Reached}
use Rattle.scan.proofs.segments.mark.Given as goal

abbrev pub invariant-loop-n : goal.invariant-loop-n
invariant-loop-n g l =
    let v = l.segments.elements.now in
    let d = l.segments.lengths.now in
    Reached v d l.n-index l.at × (take l.at l.places ++ places (cut (drop l.at v) (drop l.n-index d)) ≡ places (cut v d))
