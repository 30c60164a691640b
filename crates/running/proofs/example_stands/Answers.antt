use Rattle.running.proofs.Example.{example_law}
use Rattle.running.proofs.example_stands.Goals as goal

pub returns : goal.returns
returns c = example_law
