use Rattle.running.proofs.Whole.{running_law}
use Rattle.running.proofs.runs_agree.Goals as goal

pub returns : goal.returns
returns c = running_law
