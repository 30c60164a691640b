use Rattle.rules.proofs.Traces.{batch_trace_law}
use Rattle.rules.proofs.batch_is_judged.Goals as goal

pub returns : goal.returns
returns c = batch_trace_law
