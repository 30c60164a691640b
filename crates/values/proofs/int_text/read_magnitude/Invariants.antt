use Rattle.std.proofs.Common.{◌-◌, length}
use Rattle.values.specs.Magnitudes.{Spells}
use Rattle.values.proofs.int_text.read_magnitude.Given as goal

abbrev pub invariant-loop-value : goal.invariant-loop-value
invariant-loop-value l = Spells l.limit l.text l.number.value l.number.length

abbrev pub decreases-loop-value : goal.decreases-loop-value
decreases-loop-value l = length l.text - l.number.length
