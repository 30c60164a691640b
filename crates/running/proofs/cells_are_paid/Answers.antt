use Rattle.running.proofs.Paying.{paid_law}
use Rattle.running.proofs.cells_are_paid.Goals as goal

pub returns : goal.returns
returns c = paid_law
