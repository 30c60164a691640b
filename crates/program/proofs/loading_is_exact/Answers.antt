use Rattle.program.proofs.One.{one}
use Rattle.program.proofs.loading_is_exact.Goals as goal

pub returns : goal.returns
returns c = one
