use Rattle.std.proofs.Common.{arith}
use Rattle.typing.specs.Holding.{held}
use Rattle.typing.proofs.Lists.{under_push, under_push_map}
use Rattle.typing.proofs.Held.{notes_long, stack_long, show_held}
use Rattle.typing.proofs.checker.Checker.show.Goals as goal

pub push_reserved-requires : goal.push_reserved-requires
push_reserved-requires c = omega (arith, c.requires.notes, notes_long c.args.self.now, c.args.self.now.others)

pub push_reserved-requires-2 : goal.push_reserved-requires-2
push_reserved-requires-2 c = omega (arith, c.requires.stack, stack_long c.args.self.now, c.args.self.now.rooms)

pub invariant_of-self-clause-codes : goal.invariant_of-self-clause-codes
invariant_of-self-clause-codes c =
    let s = c.args.self.now in
    let k = c.known-code.ensures.within in
    (s.codes.0, under_push _ _ _ _ s.codes.1 k c.push_reserved-2.ensures.items, under_push_map (λ n. n.code) _ _ _ _ s.codes.2 k c.push_reserved.ensures.items)

pub returns-clause-holds : goal.returns-clause-holds
unfolding held
returns-clause-holds c =
    rw (← c.known-code.ensures.is) (show_held c.args.self.now _ _ _ c.push_reserved.ensures.items c.push_reserved-2.ensures.items)
