use Rattle.texts.proofs.Laws.{read_printed}
use Rattle.texts.proofs.law.printed_is_read.Goals as goal

pub returns : goal.returns
returns c = read_printed
