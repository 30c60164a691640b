use Rattle.std.proofs.Common.{◌<◌, [], ◌∷◌, ◌++◌, length, take, eqb, sym, ap, ◌∙◌, arith}
use Rattle.std.proofs.lemmas.List.{take_more, take_more_set}
use Rattle.monoid.specs.Segments.{marked}
use Rattle.monoid.proofs.Lifts.{length_marked, get_or-marked}
use Rattle.scan.proofs.segments.mark_segment.Goals as goal

pub loop-i-preserved : goal.loop-i-preserved
loop-i-preserved g c =
    let i = c.loop-i.i in
    let xs = c.args.segment.now in
    let x = c.index-segment-i.result in
    let lt : i < length c.loop-i.places = omega arith in
    let within : i < length (marked xs) = rw length_marked c.loop-i-test.true in
    take_more_set c.loop-i.places i (eqb i 0, x) lt
    ∙ ap (λ ps. ps ++ ((eqb i 0, x) ∷ [])) c.loop-i.invariant
    ∙ sym (take_more (marked xs) i (eqb i 0, x) within ∙ ap (λ p. take i (marked xs) ++ (p ∷ [])) (get_or-marked xs i x c.loop-i-test.true c.index-segment-i.is))
