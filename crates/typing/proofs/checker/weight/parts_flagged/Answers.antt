use Rattle.std.proofs.Common.{◌≡◌, ◌<◌, map, reverse, take, sym, ap, ◌∙◌, arith, rules, tests}
use Rattle.std.specs.List.{sum_by, filter, zip}
use Rattle.std.proofs.lemmas.List.{drop-map}
use Rattle.std.proofs.lemmas.Iterator.{YieldsList-from_slice, YieldsList-from_map, YieldsList-from_zip}
use Rattle.std.proofs.lemmas.Iterator.Adapters.{YieldsList-from_rev_slice}
use Rattle.std.proofs.lemmas.Iterator.Consumers.{YieldsList-at, YieldsList-from_filter, sum_by_from_yields_List, fits_by_from_yields_list}
use Rattle.types.specs.Table.{types_in}
use Rattle.judging.specs.Judging.{parts_used}
use Rattle.typing.specs.Codes.{binding_of}
use Rattle.typing.proofs.Lists.{reverse-take}
use Rattle.typing.proofs.Weighing.{parts_at, used_sum, used_few}
use Rattle.typing.proofs.checker.weight.parts_flagged.Goals as goal

pub sum-requires-clause-fits : goal.sum-requires-clause-fits
sum-requires-clause-fits c =
    let outer = take c.saturating_sub.result c.args.scope.now in
    let sc = reverse outer in
    let us = c.args.flags.now in
    let ts = types_in c.args.types.now in
    let few : sum_by (parts_at ts) (filter (λ p. p.1) (zip sc us)) < 18446744073709551616 = omega (arith, used_sum ts sc us, used_few (map (binding_of ts) sc) us, c.requires) in
    fits_by_from_yields_list (parts_at ts) (filter (λ p. p.1) (zip sc us)) c.map.result 18446744073709551616 (YieldsList-from_map _ (parts_at ts) (YieldsList-at c.map.ensures.source (YieldsList-from_filter _ (λ p. p.1) (YieldsList-at c.filter.ensures.source (YieldsList-from_zip (YieldsList-at c.zip.ensures.first (YieldsList-from_rev_slice outer (cc))) (YieldsList-from_slice us (cc)))) c.filter.ensures.closure (λ x r q k. search (rules, tests)))) c.map.ensures.closure (λ x r q k. search (rules, tests))) few

pub returns : goal.returns
returns c =
    let outer = take c.saturating_sub.result c.args.scope.now in
    let sc = reverse outer in
    let us = c.args.flags.now in
    let ts = types_in c.args.types.now in
    let total : c.sum.result ≡ parts_used (map (binding_of ts) sc) us =
    sum_by_from_yields_List (parts_at ts) (filter (λ p. p.1) (zip sc us)) c.map.result c.sum.result c.sum.ensures.ran (YieldsList-from_map _ (parts_at ts) (YieldsList-at c.map.ensures.source (YieldsList-from_filter _ (λ p. p.1) (YieldsList-at c.filter.ensures.source (YieldsList-from_zip (YieldsList-at c.zip.ensures.first (YieldsList-from_rev_slice outer (cc))) (YieldsList-from_slice us (cc)))) c.filter.ensures.closure (λ x r q k. search (rules, tests)))) c.map.ensures.closure (λ x r q k. search (rules, tests))) ∙ used_sum ts sc us in
    let cut = ap (map (binding_of ts)) (reverse-take c.args.scope.now c.args.skip c.saturating_sub.result (search rules)) ∙ sym (drop-map (binding_of ts) c.args.skip (reverse c.args.scope.now)) in
    record { is = total ∙ ap (λ s. parts_used s us) cut; small = omega (arith, total, used_few (map (binding_of ts) sc) us) }
