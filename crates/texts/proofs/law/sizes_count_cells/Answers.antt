use Rattle.texts.proofs.Laws.{cells_count}
use Rattle.texts.proofs.law.sizes_count_cells.Goals as goal

pub returns : goal.returns
returns c = cells_count
