use Rattle.lang.proofs.limits_are_kept.Goals as goal
use Rattle.lang.proofs.Limits.{limits}

pub returns : goal.returns
returns c = limits
