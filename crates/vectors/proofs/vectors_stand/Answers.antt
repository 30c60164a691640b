use Rattle.vectors.proofs.Faithful.{vector_laws}
use Rattle.vectors.proofs.vectors_stand.Goals as goal

pub returns : goal.returns
returns c = vector_laws
