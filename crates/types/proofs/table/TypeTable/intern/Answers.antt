use Rattle.std.proofs.Common.{arith}
use Rattle.types.proofs.Held.{sized, node_found, pushed_sound, pushed-code}
use Rattle.types.proofs.table.TypeTable.intern.Goals as goal

pub returns-in-Some : goal.returns-in-Some
returns-in-Some c =
    rw (← c.known_node-node.ensures.is) (node_found c.args.self.now _ _ c.as_slice.ensures.value c.in-Some.code c.in-Some.ensures)

pub push_reserved-requires : goal.push_reserved-requires
push_reserved-requires c = omega (arith, c.requires, sized c.args.self.now)

pub invariant_of-self : goal.invariant_of-self
invariant_of-self c =
    let s = pushed_sound c.args.self.now _ _ c.as_slice.ensures.value c.in-None.ensures c.known_node-node.ensures.within _ _ c.count-count.ensures c.push_reserved.ensures.items in
    record { starts = s.starts; below = s.below; counts = s.counts; once = s.once; room = omega arith }

pub returns-in-None : goal.returns-in-None
returns-in-None c =
    rw (← c.known_node-node.ensures.is) (pushed-code c.args.self.now _ _ c.as_slice.ensures.value c.in-None.ensures c.known_node-node.ensures.within _ _ c.count-count.ensures c.push_reserved.ensures.items _ c.len-code.ensures)
