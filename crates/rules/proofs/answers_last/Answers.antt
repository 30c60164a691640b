use Rattle.rules.proofs.More.{more_law}
use Rattle.rules.proofs.answers_last.Goals as goal

pub returns : goal.returns
returns c = more_law
