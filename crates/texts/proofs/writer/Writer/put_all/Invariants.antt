use Rattle.std.proofs.Common.{take}
use Rattle.texts.specs.Writing.{Puts}
use Rattle.texts.proofs.writer.Writer.put_all.Given as goal

abbrev pub invariant-loop-b : goal.invariant-loop-b
invariant-loop-b l = Puts (take l.b-index l.bytes) l.initial.self l.self
