use Rattle.values.proofs.Rowing.{no_sign}
use Rattle.values.proofs.list.read_at.Goals as goal

pub returns-in_default-clause-kept : goal.returns-in_default-clause-kept
returns-in_default-clause-kept g c = no_sign _ _ _ _ _ _ _ c.in-Ok.ensures c.in_default.ensures.0 c.in_default.ensures.1
