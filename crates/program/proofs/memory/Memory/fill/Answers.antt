use Rattle.program.proofs.Stages.{filled}
use Rattle.program.proofs.memory.Memory.fill.Goals as goal

pub returns : goal.returns
returns c = filled _ _ _ c.read.ensures.answers c.read.ensures.few
