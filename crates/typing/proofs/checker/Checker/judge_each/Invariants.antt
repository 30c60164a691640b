use Rattle.std.proofs.Common.{◌≡◌, drop}
use Rattle.judging.specs.Judging.{judge, begin}
use Rattle.typing.specs.Holding.{held}
use Rattle.typing.proofs.Growing.{Small}
use Rattle.typing.proofs.checker.Checker.judge_each.Given as goal

-- what is left leads where all would, and the state is small
abbrev pub invariant-loop-o : goal.invariant-loop-o
invariant-loop-o l = record {
  leads : judge (drop l.o-index l.occurrences) (held l.self) ≡ judge l.occurrences begin;
  small : Small l.o-index (held l.self);
}
