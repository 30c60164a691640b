use Rattle.std.proofs.Common.{arith}
use Rattle.std.proofs.lemmas.Int.{ints}
use Rattle.values.proofs.IntTexts.{plain_reads, plain_stops}
use Rattle.values.proofs.int_text.read_natural.Goals as goal

pub returns-then-number-eq0 : goal.returns-then-number-eq0
returns-then-number-eq0 c = plain_stops _ c.requires _ _ c.read_magnitude-number.ensures c.if-number-eq0.true

pub returns : goal.returns
returns c = plain_reads _ c.requires _ _ c.read_magnitude-number.ensures _ (omega (arith, c.if-number-eq0.false)) (omega (arith, ints, c.new.ensures, c.read_magnitude-number.ensures.front.small))
