-- What a scan of the lift leaves in the places of segments.
use Rattle.std.specs.Prelude.{Bool, false, List}
use Rattle.monoid.specs.Laws.{product}
use Rattle.monoid.specs.Lifted.{lifted}
use Rattle.monoid.specs.Segments.{places}
use Rattle.scan.specs.Scans.{Scanned}

-- the places of the segments, scanned
abbrev pub ScannedPlaces : {M : Type 0} → M → (M → M → M) → List (List M) → List (Bool × M) → Type 0
ScannedPlaces unit op xss ys = Scanned (false, unit) (lifted op) (places xss) ys

-- the product of all places
abbrev pub product_of_places : {M : Type 0} → M → (M → M → M) → List (List M) → Bool × M
product_of_places unit op xss = product (false, unit) (lifted op) (places xss)
