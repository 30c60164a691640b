use Rattle.vectors.proofs.Faithful.{cell_laws}
use Rattle.vectors.proofs.cells_stand.Goals as goal

pub returns : goal.returns
returns c = cell_laws
