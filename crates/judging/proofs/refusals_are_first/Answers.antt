use Rattle.judging.proofs.refusals_are_first.Goals as goal
use Rattle.judging.proofs.First.{firsts}

pub returns : goal.returns
returns c = firsts
