use Rattle.std.proofs.Common.{refl, arith}
use Rattle.tokens.specs.Lexemes as said
use Rattle.tokens.proofs.Runs.{run_bytes, run_length}
use Rattle.tokens.proofs.Lexemes.{spelt}
use Rattle.tokens.proofs.lexeme.letters.Goals as goal

pub find_name-requires : goal.find_name-requires
find_name-requires c = run_bytes c.run_end-end.ensures

pub returns-in_default : goal.returns-in_default
returns-in_default c =
    let run = c.run_end-end.ensures in
    (refl, said.long c.requires.1 run (omega (arith, run_length run, c.in_default.ensures.bytes)))

pub returns : goal.returns
returns c =
    let run = c.run_end-end.ensures in
    let name = c.in-Some.ensures.bytes in
    (refl, said.letters c.requires.1 run (omega (arith, run_length run, name.0)) (spelt _ _ _ _ name.1 c.find_word.ensures.word c.unwrap_or-kind.ensures))
