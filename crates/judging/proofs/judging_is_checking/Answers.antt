use Rattle.judging.proofs.judging_is_checking.Goals as goal
use Rattle.judging.proofs.Whole.{judging}

pub returns : goal.returns
returns c = judging
