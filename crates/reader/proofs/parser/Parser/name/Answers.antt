use Rattle.std.proofs.Common.{◌∙◌}
use Rattle.grammar.proofs.Wanting.{lacks_name}
use Rattle.reader.proofs.Ways.{same_state}
use Rattle.reader.proofs.Ways.{same_state}
use Rattle.reader.proofs.Ways.{same_state}
use Rattle.reader.proofs.parser.Parser.name.Goals as goal

pub returns-in_default : goal.returns-in_default
returns-in_default c = record { kept = same_state; refuses = λ γ free s. lacks_name c.args.self.now.within (λ n e. c.in_default.not-Name n (c.peek.ensures ∙ e)) c.refusal.ensures s }
