use Rattle.typing.specs.Holding.{held}
use Rattle.typing.proofs.Held.{empty-held}
use Rattle.typing.proofs.checker.Checker.clear.Goals as goal

pub returns : goal.returns
unfolding held
returns c =
    empty-held _ _ _ _ _ _ c.clear-5.ensures.items c.clear-4.ensures.items c.clear-2.ensures.items c.clear.ensures.items
