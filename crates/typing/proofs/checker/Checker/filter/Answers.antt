use Rattle.std.proofs.Common.{true, ap, arith, rules}
use Rattle.typing.specs.Holding.{held}
use Rattle.typing.proofs.Lists.{under-take-map, under_push_map}
use Rattle.typing.proofs.Forking.{filter_held}
use Rattle.typing.proofs.checker.Checker.filter.Goals as goal

pub invariant_of-self-clause-logged : goal.invariant_of-self-clause-logged
invariant_of-self-clause-logged c =
    let s = c.args.self.now in
    let a = under-take-map (λ f. f.start) _ _ _ _ s.logged.0 c.pop.ensures.rest in
    let b = under-take-map (λ f. f.depth) _ _ _ _ s.logged.1 c.pop.ensures.rest in
    (under_push_map (λ f. f.start) _ _ _ _ a (omega (arith, c.last_fork-fork.ensures.start)) c.push_reserved.ensures.items, under_push_map (λ f. f.depth) _ _ _ _ b c.last_fork-fork.ensures.depth c.push_reserved.ensures.items)

pub returns : goal.returns
unfolding held
returns c =
    filter_held c.args.self.now _ _ _ _ (search rules) c.pop.ensures.rest c.push_reserved.ensures.items _ (ap (λ u. record { filtered = true; used = u.used }) c.last_fork-fork.ensures.is)
