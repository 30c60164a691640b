use Rattle.grammar.specs.Grammar.{same, less}
use Rattle.reader.proofs.operators.comparison.Goals as goal

pub returns-in-Same : goal.returns-in-Same
returns-in-Same c = (same, c.in-Same.is)

pub returns-in-Less : goal.returns-in-Less
returns-in-Less c = (less, c.in-Less.is)
