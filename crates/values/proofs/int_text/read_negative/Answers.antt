use Rattle.std.proofs.Common.{arith}
use Rattle.std.proofs.lemmas.Int.{ints}
use Rattle.values.proofs.IntTexts.{minus_reads, minus_stops}
use Rattle.values.proofs.int_text.read_negative.Goals as goal

pub returns-then-number-eq0 : goal.returns-then-number-eq0
returns-then-number-eq0 c = minus_stops _ _ _ c.read_magnitude-number.ensures c.if-number-eq0.true

pub returns : goal.returns
returns c = minus_reads _ _ _ c.read_magnitude-number.ensures _ (omega (arith, c.if-number-eq0.false)) (omega (arith, ints, c.new.ensures, c.read_magnitude-number.ensures.front.small, c.if-number-eq0.false))
