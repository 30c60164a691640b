use Rattle.std.proofs.Common.{length, ap, ◌∙◌, arith, rules}
use Rattle.std.proofs.lemmas.List.{length_push}
use Rattle.std.specs.Prelude.{vec_len}
use Rattle.judging.specs.Judging.{with_forks, uses_at}
use Rattle.typing.specs.Holding.{held}
use Rattle.typing.proofs.Lists.{under_more}
use Rattle.typing.proofs.Held.{notes_long}
use Rattle.typing.proofs.Forking.{use_held}
use Rattle.typing.proofs.checker.Checker.note_use.Goals as goal

pub push_reserved-requires : goal.push_reserved-requires
push_reserved-requires c =
    omega (arith, c.requires.notes, notes_long c.args.self.now, c.args.self.now.few, c.show.new.self.others, ap vec_len c.show.ensures.uses)

pub invariant_of-self-clause-logged : goal.invariant_of-self-clause-logged
invariant_of-self-clause-logged c =
    let s = c.show.new.self in (under_more _ _ _ s.logged.0 (omega arith), s.logged.1)

pub invariant_of-self-clause-few : goal.invariant_of-self-clause-few
invariant_of-self-clause-few c =
    let s = c.args.self.now in
    omega (arith, s.few, c.show.new.self.few, notes_long s, notes_long c.show.new.self, ap (λ x. length x.notes) c.show.ensures.holds, length_push (held s).notes, ap vec_len c.show.ensures.uses, c.push_reserved.ensures.len)

pub returns : goal.returns
unfolding held
returns c =
    use_held c.show.new.self _ _ c.push_reserved.ensures.items (search rules) ∙ ap (λ s. with_forks (uses_at (length s.scope) c.args.note.index s.forks) s) c.show.ensures.holds
