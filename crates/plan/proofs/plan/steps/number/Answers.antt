use Rattle.std.proofs.Common.{arith}
use Rattle.monoid.specs.IntsLemmas.{same_int}
use Rattle.plan.proofs.Gathers.{number_is}
use Rattle.plan.proofs.plan.steps.number.Goals as goal

pub returns : goal.returns
returns c = same_int _ _ (number_is c.args.value c.cast_signed.result (omega arith) c.cast_signed.ensures c.new.ensures)
