use Rattle.std.proofs.Common.{rules}
use Rattle.typing.specs.Holding.{held}
use Rattle.typing.proofs.Held.{cut-held}
use Rattle.typing.proofs.checker.Checker.pop.Goals as goal

pub returns : goal.returns
unfolding held
returns c = cut-held c.args.self.now _ 1 _ (search rules) c.pop.ensures.rest
