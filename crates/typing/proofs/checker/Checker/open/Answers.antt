use Rattle.std.proofs.Common.{arith, rules}
use Rattle.typing.specs.Holding.{held}
use Rattle.typing.proofs.Lists.{under_push_map}
use Rattle.typing.proofs.Held.{scope_long, forks_long}
use Rattle.typing.proofs.Forking.{open_held}
use Rattle.typing.proofs.checker.Checker.open.Goals as goal

pub push_reserved-requires : goal.push_reserved-requires
push_reserved-requires c = omega (arith, c.requires, forks_long c.args.self.now, c.args.self.now.rooms)

pub invariant_of-self-clause-logged : goal.invariant_of-self-clause-logged
invariant_of-self-clause-logged c =
    let s = c.args.self.now in
    (under_push_map (λ f. f.start) _ _ _ _ s.logged.0 (search rules) c.push_reserved.ensures.items, under_push_map (λ f. f.depth) _ _ _ _ s.logged.1 (omega (arith, c.requires, scope_long s)) c.push_reserved.ensures.items)

pub returns-clause-holds : goal.returns-clause-holds
unfolding held
returns-clause-holds c =
    open_held c.args.self.now _ _ _ (search rules) (search rules) c.push_reserved.ensures.items
