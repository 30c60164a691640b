use Rattle.rules.proofs.Dividing.{division_law}
use Rattle.rules.proofs.division_is_exact.Goals as goal

pub returns : goal.returns
returns c = division_law
