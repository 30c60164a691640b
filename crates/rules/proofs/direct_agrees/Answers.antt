use Rattle.rules.proofs.Direct.{direct_law}
use Rattle.rules.proofs.direct_agrees.Goals as goal

pub returns : goal.returns
returns c = direct_law
