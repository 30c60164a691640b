use Rattle.std.proofs.Common.{refl}
use Rattle.typing.specs.Holding.{held}
use Rattle.typing.proofs.checker.Checker.weight.Goals as goal

pub returns : goal.returns
unfolding held
returns c = refl
