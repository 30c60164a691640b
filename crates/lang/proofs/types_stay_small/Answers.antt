use Rattle.lang.proofs.types_stay_small.Goals as goal
use Rattle.lang.proofs.Small.{small}

pub returns : goal.returns
returns c = small
