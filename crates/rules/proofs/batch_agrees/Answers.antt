use Rattle.rules.proofs.Agree.{batch_law}
use Rattle.rules.proofs.batch_agrees.Goals as goal

pub returns : goal.returns
returns c = batch_law
