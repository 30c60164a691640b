use Rattle.std.proofs.Common.{◌≡◌, ◌++◌, reverse, vec_items, vec_capacity}
use Rattle.std.specs.Iterator.Adapters.{enumerate_source, enumerate_count, zip_first, zip_second, rev_source}
use Rattle.std.specs.Slice.Iter.{iter_rest}
use Rattle.plan.specs.Filling.{gathered}
use Rattle.plan.proofs.gathering.gather.Given as goal

-- what was added and what is left make all
abbrev pub invariant-loop-index : goal.invariant-loop-index
invariant-loop-index l =
    let rest = enumerate_source l.index-iterator in
    (vec_items l.frees ++ gathered (iter_rest (zip_first rest)) (reverse (iter_rest (rev_source (zip_second rest)))) (enumerate_count l.index-iterator) ≡ vec_items l.initial.frees ++ gathered l.flags (reverse l.scope) 0)
    × (vec_capacity l.frees ≡ vec_capacity l.initial.frees)
