use Rattle.std.proofs.Common.{refl, arith}
use Rattle.types.proofs.Sound.{int_is}
use Rattle.types.proofs.Held.{sized}
use Rattle.types.proofs.table.TypeTable.int.Goals as goal

pub returns : goal.returns
returns c =
    let starts = c.args.self.now.starts in
    record { code = refl; within = omega (arith, starts.0, sized c.args.self.now); is = int_is _ starts.1 }
