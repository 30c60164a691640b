use Rattle.values.proofs.Magnitudes.{more_spells, reads_magnitude}
use Rattle.values.proofs.int_text.read_magnitude.Goals as goal

pub loop-value-preserved : goal.loop-value-preserved
loop-value-preserved c = more_spells _ c.requires _ _ _ c.loop-value.invariant _ c.in-Some.ensures

pub returns : goal.returns
returns c = reads_magnitude _ c.requires _ _ _ c.loop-value.invariant c.in_default.ensures
