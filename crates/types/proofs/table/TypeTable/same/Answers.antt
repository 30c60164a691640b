use Rattle.std.proofs.Common.{rules}
use Rattle.types.proofs.Same.{agrees}
use Rattle.types.proofs.table.TypeTable.same.Goals as goal

pub returns-clause-agrees : goal.returns-clause-agrees
returns-clause-agrees c = agrees _ _ _ (search rules)
