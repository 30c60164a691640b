use Rattle.lang.proofs.derivations_are_programs.Goals as goal
use Rattle.lang.proofs.Derived.{derived}

pub returns : goal.returns
returns c = derived
