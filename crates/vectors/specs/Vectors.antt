-- Vectors side by side, and numbers that an int can hold.
use Rattle.std.specs.Prelude.{ℕ, ◌^◌, ◌<◌, List, [], ◌∷◌, ◌++◌, slice_index_or}
use mir.Val.{hbits}
use Rattle.monoid.specs.Ints.{width}
use Rattle.monoid.specs.declared.int.Int.{Int}

-- an int can hold n
abbrev pub Countable : ℕ → Type 0
Countable n = n < 2 ^ hbits width

-- vector k; none is empty
abbrev pub part : List (List Int) → ℕ → List Int
part vs k = slice_index_or vs k []

-- to each vector its other is appended
abbrev pub beside : List (List Int) → List (List Int) → List (List Int)
beside [] ws = []
beside (v ∷ vs) [] = []
beside (v ∷ vs) (w ∷ ws) = (v ++ w) ∷ beside vs ws
