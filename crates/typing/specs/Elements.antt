-- The elements of a list in brackets, by their codes.
use Rattle.std.specs.Prelude.{◌≡◌, ℕ, ◌<◌, Bool, true, false, List, length, slice_index}
use Rattle.std.proofs.Math.Option.{none}
use Rattle.types.specs.Types.{Ty, same}
use Rattle.typing.specs.Codes.{type_at}

-- all have the type of one code, or one has not
abbrev pub OneType : Bool → List Ty → List ℕ → ℕ → Type 0
OneType true ts cs c = (i : ℕ) → i < length cs → type_at ts (slice_index cs i) ≡ type_at ts c
OneType false ts cs c = (i : ℕ) × ((i < length cs) × (same (type_at ts (slice_index cs i)) (type_at ts c) ≡ none))
