use Rattle.rules.proofs.Joins.{joins_law}
use Rattle.rules.proofs.scans_join_before.Goals as goal

pub returns : goal.returns
returns c = joins_law
