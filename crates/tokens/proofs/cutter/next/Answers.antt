use Rattle.std.proofs.Common.{sym, subst}
use Rattle.tokens.specs.Cutting as said
use Rattle.tokens.specs.Cutting.{Stop, Next}
use Rattle.tokens.proofs.Cutting.{taken}
use Rattle.tokens.proofs.cutter.next.Goals as goal

pub returns-then-i-text : goal.returns-then-i-text
returns-then-i-text c = subst (Next _ _ _) (sym c.stop.ensures) (said.stop (said.ended c.if-i-text.true))

pub returns-in-Ok : goal.returns-in-Ok
returns-in-Ok c =
    subst (Next _ _ _) (sym c.stop-in-Ok.ensures) (said.stop (said.beyond c.in-Ok.ensures.1 c.if-tokens-ge-MAX_TOKENS.true))

pub returns-in-Ok-2 : goal.returns-in-Ok-2
returns-in-Ok-2 c =
    let is = c.in-Ok.ensures in
    taken _ _ _ _ is.0 is.1 c.if-tokens-ge-MAX_TOKENS.false

pub returns-in-Err : goal.returns-in-Err
returns-in-Err c =
    subst (Next _ _ _) (sym c.stop-in-Err.ensures) (said.stop (subst (Stop _ _ _) (sym c.from.ensures) (said.unspelled c.in-Err.ensures.1)))
