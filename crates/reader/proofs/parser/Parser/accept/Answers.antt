use Rattle.std.proofs.Common.{sym, ◌∙◌}
use Rattle.tokens.proofs.Same.{same}
use Rattle.reader.proofs.Begun.{took_as}
use Rattle.reader.proofs.parser.Parser.accept.Goals as goal

pub returns-then-eq : goal.returns-then-eq
returns-then-eq c = took_as (sym c.peek.ensures ∙ same _ _ _ c.eq.ensures c.if-eq.true) c.pass.ensures.took
