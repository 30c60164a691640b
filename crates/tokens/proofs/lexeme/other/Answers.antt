use Rattle.std.proofs.Common.{refl}
use Rattle.tokens.proofs.Lexemes.{signed, unsigned}
use Rattle.tokens.proofs.lexeme.other.Goals as goal

pub returns-in-Some : goal.returns-in-Some
returns-in-Some c =
    let class = c.requires.class in
    let is = c.in-Some.ensures in
    (refl, signed _ _ _ _ c.requires.place class.0 class.1 is.0 is.1)

pub returns-in-None : goal.returns-in-None
returns-in-None c =
    let class = c.requires.class in
    (refl, unsigned _ _ c.requires.place class.0 class.1 c.in-None.ensures)
