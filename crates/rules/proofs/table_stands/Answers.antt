use Rattle.rules.proofs.Table.{table_law}
use Rattle.rules.proofs.table_stands.Goals as goal

pub returns : goal.returns
returns c = table_law
