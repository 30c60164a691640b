use Rattle.rules.proofs.Numbers.{numbers_law}
use Rattle.rules.proofs.refusals_are_numbered.Goals as goal

pub returns : goal.returns
returns c = numbers_law
