use Rattle.std.proofs.Common.{map, length, sym, subst}
use Rattle.types.specs.Table.{types_in}
use Rattle.judging.specs.Acts.{Resolves}
use Rattle.judging.specs.Occurrences.{program_occs}
use Rattle.typing.specs.Codes.{Under, note_codes, note_of}
use Rattle.typing.specs.Holding.{held}
use Rattle.program.specs.Answers.{done_in, types_of}
use Rattle.program.proofs.checked.CheckedProgram.notes.Goals as goal

pub returns : goal.returns
unfolding held
returns c =
    let p = c.args.self.now in
    record {
      are = c.notes.ensures;
      within = subst (λ ns. Under (length (types_in (types_of p))) (note_codes ns)) (sym c.notes.ensures) p.memory.checker.codes.2;
      typed = λ q h. subst (λ ns. Resolves (done_in p) (map (note_of (types_in (types_of p))) ns) (program_occs q)) (sym c.notes.ensures) h.typed;
    }
