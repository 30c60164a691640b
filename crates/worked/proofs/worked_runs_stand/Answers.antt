use Rattle.worked.proofs.Rows.{worked}
use Rattle.worked.proofs.worked_runs_stand.Goals as goal

pub returns : goal.returns
returns c = worked
