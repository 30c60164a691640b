use Rattle.std.proofs.Common.{refl}
use Rattle.texts.proofs.Writing.{puts_more}
use Rattle.texts.proofs.writer.Writer.put_all.Goals as goal

pub loop-b-preserved : goal.loop-b-preserved
loop-b-preserved c = puts_more _ _ _ _ _ _ c.loop-b-test.true refl c.loop-b.invariant c.put.ensures
