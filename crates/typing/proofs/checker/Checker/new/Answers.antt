use Rattle.typing.specs.Holding.{held}
use Rattle.typing.proofs.Held.{empty-held}
use Rattle.typing.proofs.checker.Checker.new.Goals as goal

pub returns : goal.returns
unfolding held
returns c =
    empty-held _ _ _ _ _ _ c.in_ok-scope.ensures.items c.in_ok-stack.ensures.items c.in_ok-forks.ensures.items c.in_ok-notes.ensures.items
