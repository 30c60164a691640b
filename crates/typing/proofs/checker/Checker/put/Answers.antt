use Rattle.std.proofs.Common.{arith, rules}
use Rattle.typing.specs.Holding.{held}
use Rattle.typing.proofs.Lists.{under_more, under_push, under_push_map, under-take}
use Rattle.typing.proofs.Held.{notes_long, stack_long, put_held}
use Rattle.typing.proofs.checker.Checker.put.Goals as goal

pub intern-code-requires : goal.intern-code-requires
intern-code-requires c = omega (arith, c.requires.notes, notes_long c.args.self.now, c.args.self.now.few)

pub push_reserved-requires : goal.push_reserved-requires
push_reserved-requires c = omega (arith, c.requires.notes, notes_long c.args.self.now, c.args.self.now.others)

pub push_reserved-requires-2 : goal.push_reserved-requires-2
push_reserved-requires-2 c = omega (arith, c.requires.stack, stack_long c.args.self.now, c.args.self.now.rooms)

pub invariant_of-self-clause-codes : goal.invariant_of-self-clause-codes
invariant_of-self-clause-codes c =
    let s = c.args.self.now in
    let i = c.intern-code.ensures in (
      under_more _ _ _ s.codes.0 i.longer,
      under_push _ _ _ _ (under-take _ _ _ _ (under_more _ _ _ s.codes.1 i.longer) c.truncate.ensures.items) i.within c.push_reserved-2.ensures.items,
      under_push_map (λ n. n.code) _ _ _ _ (under_more _ _ _ s.codes.2 i.longer) i.within c.push_reserved.ensures.items,
    )

pub returns : goal.returns
unfolding held
returns c =
    put_held c.args.self.now _ _ _ c.intern-code.ensures _ c.push_reserved.ensures.items _ _ c.args.k _ (search rules) c.truncate.ensures.items c.push_reserved-2.ensures.items
