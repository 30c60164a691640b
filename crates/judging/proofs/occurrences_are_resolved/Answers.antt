use Rattle.judging.proofs.occurrences_are_resolved.Goals as goal
use Rattle.judging.proofs.Resolving.{resolving}

pub returns : goal.returns
returns c = resolving
