use Rattle.std.proofs.Common.{true, false, ◌<◌, length, vec_items, reverse, sym, subst, rules, tests}
use Rattle.std.specs.Prelude.{None, Some}
use Rattle.typing.specs.Holding.{held, known}
use Rattle.typing.proofs.Lists.{under_at}
use Rattle.typing.proofs.Finding.{names_agree, first_from_back, from_back, Named, Other, find_none, found_at}
use Rattle.typing.proofs.checker.Checker.find.Goals as goal

pub returns-in_err-at : goal.returns-in_err-at
unfolding held
returns-in_err-at c =
    let ts = known c.args.self.now in
    let sc = vec_items c.args.self.now.scope in
    let first = first_from_back _ _ 0 None (Named ts c.args.name) (Other ts c.args.name) c.in_err-at.ensures.ran (from_back sc (cc)) (λ x q k. names_agree true x.now.name c.args.name (λ h. search (rules, tests), λ h. search (rules, tests))) (λ x q k. (search (rules, tests), names_agree false x.now.name c.args.name (λ h. search (rules, tests), λ h. search (rules, tests)))) in
    rw c.from_residual.ensures (find_none ts c.args.name (reverse sc) first)

pub returns : goal.returns
unfolding held
returns c =
    let ts = known c.args.self.now in
    let sc = vec_items c.args.self.now.scope in
    let first = first_from_back _ _ _ (Some c.in_ok-at.at) (Named ts c.args.name) (Other ts c.args.name) c.in_ok-at.ensures.ran (from_back sc (cc)) (λ x q k. names_agree true x.now.name c.args.name (λ h. search (rules, tests), λ h. search (rules, tests))) (λ x q k. (search (rules, tests), names_agree false x.now.name c.args.name (λ h. search (rules, tests), λ h. search (rules, tests)))) in
    let d = c.index.result.now in
    let within : d.code < length ts = subst (λ b. b.code < length ts) (sym c.index.ensures) (under_at (λ b. b.code) _ sc c.in_ok-at.at d c.args.self.now.codes.0 (search rules)) in
    (within, found_at ts c.args.name sc _ c.in_ok-at.at _ _ (search rules) first.0 (search rules) c.index.ensures first.1)
