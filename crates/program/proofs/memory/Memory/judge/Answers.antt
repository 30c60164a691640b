use Rattle.program.proofs.Stages.{judges}
use Rattle.program.proofs.memory.Memory.judge.Goals as goal

pub returns-clause-judged : goal.returns-clause-judged
returns-clause-judged c = judges c.args.self.now.table _ _ _ c.occurrences.ensures c.requires.read c.judge_program.ensures
