use Rattle.std.proofs.Common.{◌≡◌, ◌+◌, length}
use Rattle.std.specs.Iterator.Adapters.{zip_first, zip_second}
use Rattle.std.specs.Slice.Iter.{iter_rest}
use Rattle.types.specs.Table.{types_in}
use Rattle.plan.specs.Filling.{empty, run}
use Rattle.plan.specs.Holding.{held}
use Rattle.plan.proofs.Growing.{Small}
use Rattle.plan.proofs.Turns.{noted}
use Rattle.plan.proofs.plan.Plan.add_all.Given as goal

-- what is left leads where all would, and the table is small
abbrev pub invariant-loop-o : goal.invariant-loop-o
invariant-loop-o l =
    (run (noted (types_in l.types) (iter_rest (zip_first l.o-iterator)) (iter_rest (zip_second l.o-iterator))) (held l.self) ≡ run (noted (types_in l.types) l.occurrences l.notes) empty)
    × Small (length l.yielded) (held l.self)
    × (length l.yielded + length (iter_rest (zip_first l.o-iterator)) ≡ length l.occurrences)
