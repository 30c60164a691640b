use Rattle.lang.proofs.checking_is_exact.Goals as goal
use Rattle.lang.proofs.Accepting.{checking}

pub returns : goal.returns
returns c = checking
