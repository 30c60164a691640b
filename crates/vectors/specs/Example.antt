-- The value [[x, y], [], [z]], as cells and as vectors.
use Rattle.std.specs.Prelude.{◌≡◌, [], ◌∷◌}
use Rattle.monoid.specs.declared.int.Int.{Int}
use Rattle.types.specs.Types.{Ty, int, list}
use Rattle.lang.specs.Values.{Val}
use Rattle.lang.specs.Layout.{cells, vectors, count}

abbrev pub rows : Ty
rows = list (list int)

abbrev pub sample : Int → Int → Int → Val rows
sample x y z = (x ∷ y ∷ []) ∷ [] ∷ (z ∷ []) ∷ []

-- the number of rows, and each row's length and elements
abbrev pub SampleCells : Type 0
SampleCells = (x y z : Int) → cells rows (sample x y z) ≡ count 3 ∷ count 2 ∷ x ∷ y ∷ count 0 ∷ count 1 ∷ z ∷ []

-- the number of rows, the rows' lengths, and the elements of all
abbrev pub SampleVectors : Type 0
SampleVectors = (x y z : Int) → vectors rows (sample x y z ∷ []) ≡ (count 3 ∷ []) ∷ (count 2 ∷ count 0 ∷ count 1 ∷ []) ∷ (x ∷ y ∷ z ∷ []) ∷ []
