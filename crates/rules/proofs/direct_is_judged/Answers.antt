use Rattle.rules.proofs.Traces.{direct_trace_law}
use Rattle.rules.proofs.direct_is_judged.Goals as goal

pub returns : goal.returns
returns c = direct_trace_law
