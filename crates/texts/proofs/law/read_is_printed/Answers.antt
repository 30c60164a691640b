use Rattle.texts.proofs.Laws.{print_read}
use Rattle.texts.proofs.law.read_is_printed.Goals as goal

pub returns : goal.returns
returns c = print_read
