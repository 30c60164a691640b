use Rattle.std.proofs.Common.{◌≡◌, length, ◌∙◌}
use Rattle.std.proofs.lemmas.List.{take_at}
use Rattle.monoid.specs.IntsLemmas.{sums_once}
use Rattle.totals.proofs.sum_rows.Goals as goal

pub returns-clause-sums : goal.returns-clause-sums
returns-clause-sums g c =
    let long : length c.reduce-made.new.out ≡ c.in_ok-sums.sums.len = c.reduce-made.auto.out ∙ c.deref_mut-2.ensures.len in
    take_at c.reduce-made.new.out _ _ long ∙ c.reduce-made.ensures.total ∙ sums_once _
