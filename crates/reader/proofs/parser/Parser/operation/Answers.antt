use Rattle.std.proofs.Common.{◌∙◌}
use Rattle.grammar.proofs.Wanting.{lacks_joint}
use Rattle.reader.proofs.Ways.{same_state}
use Rattle.reader.proofs.Ways.{same_state}
use Rattle.reader.proofs.Ways.{same_state}
use Rattle.reader.proofs.parser.Parser.operation.Goals as goal

pub returns-in-None : goal.returns-in-None
returns-in-None c = record { kept = same_state; refuses = λ γ free s. lacks_joint c.args.self.now.within (λ o e. c.in-None.ensures o (c.peek.ensures ∙ e)) c.refusal.ensures s }
