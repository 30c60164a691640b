use Rattle.std.proofs.Common.{rules}
use Rattle.types.proofs.Same.{same_self}
use Rattle.typing.proofs.checker.Checker.one_type.Goals as goal

pub returns-in_ok-folded-in-Scan : goal.returns-in_ok-folded-in-Scan
returns-in_ok-folded-in-Scan c = rw (c.in-Scan.is, c.in_ok-folded-in-Scan.ensures.0, same_self) (search rules)

pub returns-in_ok-folded-in-Reduce : goal.returns-in_ok-folded-in-Reduce
returns-in_ok-folded-in-Reduce c = rw (c.in-Reduce.is, c.in_ok-folded-in-Reduce.ensures.0, same_self) (search rules)
