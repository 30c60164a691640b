use Rattle.std.proofs.Common.{◌≡◌, take}
use Rattle.monoid.specs.Segments.{marked}
use Rattle.scan.proofs.segments.mark_segment.Given as goal

abbrev pub invariant-loop-i : goal.invariant-loop-i
invariant-loop-i g l = take l.i l.places ≡ take l.i (marked l.segment)
