use Rattle.std.proofs.Common.{◌+◌, sym, ap, ◌∙◌, arith}
use Rattle.values.proofs.Decimals.{length_by_log}
use Rattle.values.proofs.print.digit_count.Goals as goal

pub returns-clause-count : goal.returns-clause-count
returns-clause-count c =
    let log = c.checked_ilog10.ensures in
    ap (λ k. k + 1) c.unwrap_or.ensures ∙ sym (length_by_log c.args.number c.checked_ilog10.result (omega (arith, c.ranges.number.fits)) log.none log.power_le log.next_power_gt)
