use Rattle.texts.proofs.Laws.{one_value}
use Rattle.texts.proofs.law.texts_are_unique.Goals as goal

pub returns : goal.returns
returns c = one_value
