use Rattle.lang.proofs.examples_stand.Goals as goal
use Rattle.lang.proofs.Examples.{examples}

pub returns : goal.returns
returns c = examples
