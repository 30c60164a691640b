use Rattle.std.proofs.Common.{◌≡◌, ◌∙◌, map, sym, refl, arith, rules, tests}
use Rattle.std.proofs.lemmas.List.{length-map}
use Rattle.std.proofs.lemmas.List.Recursion.{is_sum_by}
use Rattle.std.proofs.lemmas.Iterator.{YieldsList-from_slice, YieldsList-from_map}
use Rattle.std.proofs.lemmas.Iterator.Consumers.{YieldsList-at, sum_by_from_yields_List}
use Rattle.types.specs.Table.{types_in}
use Rattle.types.specs.Entries.{counted}
use Rattle.judging.specs.Judging.{counted_of}
use Rattle.typing.specs.Codes.{type_at}
use Rattle.typing.proofs.Growing.{counted_little}
use Rattle.typing.proofs.elements.parts_of.Goals as goal

pub returns : goal.returns
returns c =
    let ts = types_in c.args.types.now in
    let cs = c.args.codes.now in
    let total : c.sum.result ≡ counted_of (map (type_at ts) cs) =
    sum_by_from_yields_List (λ i. counted (type_at ts i)) cs c.map.result c.sum.result c.sum.ensures.ran (YieldsList-from_map _ (λ i. counted (type_at ts i)) (YieldsList-at c.map.ensures.source (YieldsList-from_slice cs (cc))) c.map.ensures.closure (λ x r q k. search (rules, tests))) ∙
    sym (is_sum_by (λ cs. counted_of (map (type_at ts) cs)) (λ i. counted (type_at ts i)) refl (λ _ _. refl) cs) in
    record { is = total; small = omega (arith, total, counted_little (map (type_at ts) cs), length-map cs (type_at ts)) }
