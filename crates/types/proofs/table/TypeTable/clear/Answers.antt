use Rattle.std.proofs.Common.{sym, ap, ◌∙◌, subst, arith}
use Rattle.types.specs.Entries.{types_of}
use Rattle.types.proofs.Sound.{Sound, begun, first_types}
use Rattle.types.proofs.table.TypeTable.clear.Goals as goal

pub invariant_of-self : goal.invariant_of-self
invariant_of-self c =
    let s = subst Sound (sym c.begin.ensures.items) begun in
    record { starts = s.starts; below = s.below; counts = s.counts; once = s.once; room = omega arith }

pub returns : goal.returns
returns c = ap types_of c.begin.ensures.items ∙ first_types
