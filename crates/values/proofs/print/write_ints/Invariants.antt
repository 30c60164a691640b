use Rattle.std.proofs.Common.{take}
use Rattle.values.specs.Texts.{int_text}
use Rattle.values.proofs.Printing.{Written}
use Rattle.values.proofs.print.write_ints.Given as goal

abbrev pub invariant-loop-x : goal.invariant-loop-x
invariant-loop-x l = Written int_text (take l.x-index l.others) l.at l.out
