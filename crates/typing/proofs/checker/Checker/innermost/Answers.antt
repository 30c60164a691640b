use Rattle.std.proofs.Common.{◌≡◌, [], vec_items, reverse, get_or, sym, ap, ◌∙◌, subst, ◌-◌, ◌<◌, length, rules, tests}
use Rattle.std.specs.Prelude.{MatchOption}
use Rattle.std.specs.List.{slice_get}
use Rattle.std.specs.Option.{option_copied}
use Rattle.types.specs.Types.{int}
use Rattle.typing.specs.Codes.{type_at}
use Rattle.typing.specs.Holding.{held, known}
use Rattle.typing.specs.declared.parts.Binding.{Binding}
use Rattle.typing.proofs.Lists.{last_is, top_is, under_last}
use Rattle.typing.proofs.Finding.{kinds_are, map_or_is}
use Rattle.typing.proofs.checker.Checker.innermost.Goals as goal

pub returns : goal.returns
unfolding held
returns c =
    let ts = known c.args.self.now in
    let sc = vec_items c.args.self.now.scope in
    let code : Binding → _ = λ b. b.code in
    let d : Binding = record { name = record { bytes = [] }; code = c.int.result } in
    let m : MatchOption c.last.result (c.map_or.result ≡ c.int.result) (λ x. c.map_or.result ≡ x.now.code) = search (rules, tests) in
    let e : option_copied c.last.result ≡ slice_get sc (length sc - 1) = cc in
    let r : c.map_or.result ≡ code (get_or (reverse sc) 0 d) =
    map_or_is code c.last.result c.map_or.result d m ∙ ap code (last_is sc _ d e) in
    record {
      within = subst (λ i. i < length ts) (sym r) (under_last code (length ts) sc d c.args.self.now.codes.0 c.int.ensures.within);
      is = ap (type_at ts) r ∙ top_is (λ b. type_at ts b.code) sc 0 d int c.int.ensures.is ∙ ap (λ l. get_or l 0 int) (sym (kinds_are ts (reverse sc)));
    }
