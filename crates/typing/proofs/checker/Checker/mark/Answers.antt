use Rattle.std.proofs.Common.{◌∙◌, ap, arith}
use Rattle.judging.specs.Notes.{note}
use Rattle.judging.specs.Judging.{noted}
use Rattle.typing.specs.Holding.{held}
use Rattle.typing.proofs.Lists.{under_push_map}
use Rattle.typing.proofs.Held.{note-held, notes_long}
use Rattle.typing.proofs.checker.Checker.mark.Goals as goal

pub push_reserved-requires : goal.push_reserved-requires
push_reserved-requires c = omega (arith, c.requires, notes_long c.args.self.now, c.args.self.now.others)

pub invariant_of-self-clause-codes : goal.invariant_of-self-clause-codes
invariant_of-self-clause-codes c =
    let s = c.args.self.now in
    (s.codes.0, s.codes.1, under_push_map (λ n. n.code) _ _ _ _ s.codes.2 c.top-code.ensures.within c.push_reserved.ensures.items)

pub returns : goal.returns
unfolding held
returns c =
    let s = c.args.self.now in note-held s _ _ c.push_reserved.ensures.items ∙ ap (λ t. noted (note t) (held s)) c.top-code.ensures.is
