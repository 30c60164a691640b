use Rattle.std.proofs.Common.{◌≡◌, ◌+◌, ◌-◌, ◌<◌, reverse, take, drop, length, get_or, vec_items, sym, ap, ◌∙◌, subst, arith, rules}
use Rattle.std.specs.List.{slice_get}
use Rattle.std.specs.Option.{option_copied, unwrap_or}
use Rattle.std.proofs.lemmas.List.{get_or-drop}
use Rattle.types.specs.Types.{int}
use Rattle.typing.specs.Codes.{type_at}
use Rattle.typing.specs.Holding.{held, known}
use Rattle.typing.proofs.Lists.{last_is, reverse-take, top_is, under_top}
use Rattle.typing.proofs.checker.Checker.top.Goals as goal

pub returns : goal.returns
unfolding held
returns c =
    let ts = known c.args.self.now in
    let st = vec_items c.args.self.now.stack in
    let k = c.args.k in
    let b = c.saturating_sub.result in
    let d = c.int.result in
    let below = take b c.as_slice.result.now in
    let e : option_copied c.last.result ≡ slice_get below (length below - 1) = cc in
    let cut : reverse below ≡ drop k (reverse st) = ap (λ xs. reverse (take b xs)) c.as_slice.ensures.value ∙ reverse-take st k b (search rules) in
    let z : k + 0 ≡ k = omega arith in
    let r : c.unwrap_or.result ≡ get_or (reverse st) k d =
    c.unwrap_or.ensures ∙ ap (λ o. unwrap_or o d) c.copied.ensures ∙ last_is below _ d e ∙ ap (λ xs. get_or xs 0 d) cut ∙ get_or-drop k (reverse st) 0 d ∙ ap (λ i. get_or (reverse st) i d) z in
    record {
      within = subst (λ i. i < length ts) (sym r) (under_top (length ts) st k d c.args.self.now.codes.1 c.int.ensures.within);
      is = ap (type_at ts) r ∙ top_is (type_at ts) st k d int c.int.ensures.is;
    }
