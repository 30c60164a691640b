use Rattle.std.proofs.Common.{refl, rules}
use Rattle.texts.proofs.Prints.{short, printed}
use Rattle.texts.proofs.print.print_value.Goals as goal

pub returns-then-out-needed : goal.returns-then-out-needed
returns-then-out-needed c v holds = short _ v _ _ refl holds c.value.ensures _ c.if-out-needed.true

pub returns : goal.returns
returns c v holds =
    let kept = c.value-2.ensures.same_reference in
    printed _ v _ _ refl holds c.value.ensures _ _ refl refl c.value-2.ensures c.if-out-needed.false _ (search rules)
