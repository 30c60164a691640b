use Rattle.std.proofs.Common.{refl, rules}
use Rattle.typing.specs.Holding.{held}
use Rattle.typing.proofs.checker.Checker.weigh.Goals as goal

pub overflow_add-self : goal.overflow_add-self
unfolding held
overflow_add-self c = search rules

pub returns : goal.returns
unfolding held
returns c = refl
