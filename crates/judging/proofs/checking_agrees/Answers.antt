use Rattle.judging.proofs.checking_agrees.Goals as goal
use Rattle.judging.proofs.Whole.{checked}

pub returns : goal.returns
returns c = checked
