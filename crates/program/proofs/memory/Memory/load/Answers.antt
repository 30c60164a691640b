use Rattle.program.proofs.Stages.{loaded}
use Rattle.program.proofs.memory.Memory.load.Goals as goal

pub returns : goal.returns
returns c = loaded _ c.in_ok-read.field-0 _ c.in_ok-read.ensures c.check.ensures
