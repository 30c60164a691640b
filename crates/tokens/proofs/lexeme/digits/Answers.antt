use Rattle.std.proofs.Common.{refl}
use Rattle.tokens.specs.Lexemes as said
use Rattle.tokens.proofs.Runs.{run_bytes}
use Rattle.tokens.proofs.lexeme.digits.Goals as goal

pub number-requires : goal.number-requires
number-requires c = run_bytes c.run_end-end.ensures

pub returns-in-Some : goal.returns-in-Some
returns-in-Some c =
    let is = c.in-Some.ensures in
    (refl, said.number c.requires.1 c.run_end-end.ensures is.0 is.1)

pub returns-in-None : goal.returns-in-None
returns-in-None c = (refl, said.large c.requires.1 c.run_end-end.ensures c.in-None.ensures)
