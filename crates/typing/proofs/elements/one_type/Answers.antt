use Rattle.std.proofs.Common.{◌≡◌, ℕ, ◌<◌, Bool, true, false, List, length, arith, rules, tests}
use mathlib.Core.Option.{none}
use Rattle.std.specs.Bool.{MatchBool}
use Rattle.std.specs.List.{AllWithin, HoldsAt}
use Rattle.std.proofs.lemmas.Iterator.{YieldsList-from_slice, cases_from_all}
use Rattle.types.specs.Types.{Ty, same}
use Rattle.types.specs.Table.{types_in}
use Rattle.typing.specs.Codes.{type_at}
use Rattle.typing.specs.Elements.{OneType}
use Rattle.typing.proofs.elements.one_type.Goals as goal

one_is : (r : Bool) (ts : List Ty) (cs : List ℕ) (c : ℕ) → MatchBool r (AllWithin (λ i. type_at ts i ≡ type_at ts c) cs 0 (length cs)) ((k : ℕ) × (k < length cs) × HoldsAt (λ i. same (type_at ts i) (type_at ts c) ≡ none) cs k) → OneType r ts cs c
one_is true ts cs c h = λ i l. h i 0 (omega arith) l
one_is false ts cs c h = (h.0, (h.1, h.2 0))

pub returns : goal.returns
returns c =
    let ts = types_in c.args.types.now in
    one_is _ ts _ c.args.first (cases_from_all _ _ _ (λ i. type_at ts i ≡ type_at ts c.args.first) (λ i. same (type_at ts i) (type_at ts c.args.first) ≡ none) c.all.ensures.ran (YieldsList-from_slice c.args.codes.now (cc)) (λ x q k. search (rules, tests)) (λ x q k. search (rules, tests)))
