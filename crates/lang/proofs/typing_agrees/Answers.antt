use Rattle.lang.proofs.typing_agrees.Goals as goal
use Rattle.lang.proofs.Complete.{typing}

pub returns : goal.returns
returns c = typing
