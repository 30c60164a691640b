use Rattle.std.proofs.Common.{◌≡◌, ap, ◌∙◌, length, arith, rules}
use Rattle.std.proofs.lemmas.List.{length-map}
use Rattle.std.proofs.lemmas.Result.{err_from_is_err_and}
use Rattle.monoid.specs.Ints.{wrapped_sum}
use Rattle.monoid.specs.Segments.{cut}
use Rattle.monoid.proofs.Segments.{length_cut}
use Rattle.totals.proofs.Whole.{totalled, no_room}
use Rattle.totals.proofs.totals.Goals as goal

pub print_ints-requires : goal.print_ints-requires
print_ints-requires g c =
    let same : length c.deref.result.now ≡ length c.segments.result.lengths.now =
    ap length (c.deref.ensures.value ∙ c.in_ok-sums.ensures.sums) ∙ length-map (cut _ _) wrapped_sum ∙ length_cut c.segments.result.elements.now c.segments.result.lengths.now in
    omega (arith, same, c.segments.ensures.few)

pub returns-in_err-length : goal.returns-in_err-length
returns-in_err-length g c =
    let sums = rw (c.segments.ensures.elements, c.segments.ensures.lengths) at c.in_ok-sums.ensures.sums in
    let rises = rw c.segments.ensures.elements at c.in_ok-sums.ensures.rises in
    let p = err_from_is_err_and c.from_residual-in_err-length.result c.from_residual-in_err-length.ensures.1 in
    rw (p.1, p.2) (no_room _ _ _ c.in_ok-rows.ensures _ (c.deref.ensures.value ∙ sums) _ _ _ rises _ _ _ c.in_err-length.ensures)

pub returns : goal.returns
returns g c =
    let sums = rw (c.segments.ensures.elements, c.segments.ensures.lengths) at c.in_ok-sums.ensures.sums in
    let rises = rw c.segments.ensures.elements at c.in_ok-sums.ensures.rises in
    let made = rw c.segments.ensures.elements at c.in_ok-sums.ensures.made in
    totalled _ _ _ c.in_ok-rows.ensures _ (c.deref.ensures.value ∙ sums) _ _ _ rises _ _ _ c.in_ok-length.ensures (search rules) (search rules) made
