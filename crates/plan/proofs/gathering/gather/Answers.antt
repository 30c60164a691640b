use Rattle.std.proofs.Common.{inl, inr}
use Rattle.std.specs.Iterator.Adapters.{enumerate_source, enumerate_count, zip_first, zip_second, rev_source}
use Rattle.std.specs.Slice.Iter.{iter_rest}
use Rattle.plan.proofs.Gathers.{all_gathered}
use Rattle.plan.proofs.gathering.gather.Goals as goal

pub returns-clause-items : goal.returns-clause-items
returns-clause-items c =
    let it = c.loop-index.index-iterator in
    let rest = enumerate_source it in
    all_gathered (iter_rest (zip_first rest)) (iter_rest (rev_source (zip_second rest))) (enumerate_count it) _ _
    (elim c.in-None.ensures.steps.0 [ inl h ↦ inl h.1.0 | inr h ↦ inr h.1.0 ])
    c.loop-index.invariant.0
