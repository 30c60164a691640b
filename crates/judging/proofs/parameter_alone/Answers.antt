use Rattle.judging.proofs.parameter_alone.Goals as goal
use Rattle.judging.proofs.Whole.{alone}

pub returns : goal.returns
returns c = alone
