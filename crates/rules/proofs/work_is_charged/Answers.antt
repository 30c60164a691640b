use Rattle.rules.proofs.Works.{work_law}
use Rattle.rules.proofs.work_is_charged.Goals as goal

pub returns : goal.returns
returns c = work_law
