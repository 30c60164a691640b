use Rattle.std.proofs.Common.{rules, arith, ap, ◌∙◌}
use Rattle.std.proofs.lemmas.List.{length-map}
use Rattle.types.specs.TypeRefs.{meant}
use Rattle.vectors.specs.Gathering.{left}
use Rattle.vectors.proofs.Writing.{stuck}
use Rattle.vectors.proofs.Rooms.{not_found, gathered, joined}
use Rattle.vectors.proofs.gather.to_cells.Goals as goal

pub returns-in_err-vectors : goal.returns-in_err-vectors
returns-in_err-vectors c v fits holds = rw c.from_residual.ensures (not_found (meant c.args.t) v holds c.in_err-vectors.ensures)

pub returns-in_err-gather_value : goal.returns-in_err-gather_value
returns-in_err-gather_value c v fits holds =
    absurd (stuck (gathered (meant c.args.t) v holds (ap left c.as_mut_slice.ensures.value ∙ c.in_ok-vectors.ensures.0)
    (omega (arith, c.as_mut_slice.ensures.fits, length-map c.as_mut_slice.result.now (λ v. v.now))) c.in_ok-vectors.ensures.1 fits
    c.in_err-gather_value.ensures.gathers))

pub returns : goal.returns
returns c v fits holds =
    joined (meant c.args.t) v holds (ap left c.as_mut_slice.ensures.value ∙ c.in_ok-vectors.ensures.0)
    (omega (arith, c.as_mut_slice.ensures.fits, length-map c.as_mut_slice.result.now (λ v. v.now))) c.in_ok-vectors.ensures.1 fits
    c.in_ok-gather_value.ensures.gathers (search rules)
