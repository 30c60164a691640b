use Rattle.rules.proofs.Places.{places_law}
use Rattle.rules.proofs.places_are_charged_alike.Goals as goal

pub returns : goal.returns
returns c = places_law
