use Rattle.rules.proofs.Parting.{lists_law}
use Rattle.rules.proofs.lists_are_cut_exactly.Goals as goal

pub returns : goal.returns
returns c = lists_law
