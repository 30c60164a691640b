use Rattle.std.proofs.Common.{arith}
use Rattle.typing.specs.Holding.{held}
use Rattle.typing.proofs.Lists.{under_push_map}
use Rattle.typing.proofs.Held.{enter_held, scope_long}
use Rattle.typing.proofs.checker.Checker.enter.Goals as goal

pub push_reserved-requires : goal.push_reserved-requires
push_reserved-requires c = omega (arith, c.requires, scope_long c.args.self.now, c.args.self.now.rooms)

pub invariant_of-self-clause-codes : goal.invariant_of-self-clause-codes
invariant_of-self-clause-codes c =
    let s = c.args.self.now in
    (under_push_map (λ b. b.code) _ _ _ _ s.codes.0 c.known-code.ensures.within c.push_reserved.ensures.items, s.codes.1, s.codes.2)

pub returns : goal.returns
unfolding held
returns c = rw (← c.known-code.ensures.is) (enter_held c.args.self.now _ _ c.push_reserved.ensures.items)
