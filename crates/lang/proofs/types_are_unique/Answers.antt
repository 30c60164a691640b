use Rattle.lang.proofs.types_are_unique.Goals as goal
use Rattle.lang.proofs.Complete.{unique}

pub returns : goal.returns
returns c = unique
