use Rattle.std.proofs.Common.{◌+◌, arith}
use Rattle.tokens.proofs.Worth.{worth_more, worth_grows}
use Rattle.tokens.proofs.number.number.Goals as goal

pub returns-in_err-checked_mul : goal.returns-in_err-checked_mul
returns-in_err-checked_mul c =
    let ds = c.args.digits.now in
    rw c.from_residual.ensures (omega (arith, c.in_err-checked_mul.ensures, c.loop-d.invariant, worth_more ds c.loop-d.d-index c.loop-d-test.true, worth_grows ds (c.loop-d.d-index + 1)))

pub returns-in_err-sum : goal.returns-in_err-sum
returns-in_err-sum c =
    let ds = c.args.digits.now in
    rw c.from_residual-in_err-sum.ensures (omega (arith, c.in_err-sum.ensures, c.in_ok-checked_mul.ensures, c.from.ensures, c.loop-d.invariant, worth_more ds c.loop-d.d-index c.loop-d-test.true, worth_grows ds (c.loop-d.d-index + 1)))
