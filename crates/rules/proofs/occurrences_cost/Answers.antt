use Rattle.rules.proofs.Works.{count_law}
use Rattle.rules.proofs.occurrences_cost.Goals as goal

pub returns : goal.returns
returns c = count_law
