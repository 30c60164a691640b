use Rattle.rules.proofs.Same.{idle_law}
use Rattle.rules.proofs.idle_occurrences_pass.Goals as goal

pub returns : goal.returns
returns c = idle_law
