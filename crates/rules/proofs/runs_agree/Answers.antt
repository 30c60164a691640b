use Rattle.rules.proofs.Same.{same_law}
use Rattle.rules.proofs.runs_agree.Goals as goal

pub returns : goal.returns
returns c = same_law
