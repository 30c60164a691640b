-- How values lie in memory: one value as a row of cells, or several values of a type as vectors.
use Rattle.std.specs.Prelude.{ℕ, List, [], ◌∷◌, ◌++◌, map, length, pos}
use Rattle.monoid.specs.declared.int.Int.{Int}
pub use Rattle.monoid.specs.Ints.{flag}
use Rattle.monoid.specs.Ints.{int_of}
use Rattle.monoid.specs.Segments.{concat}
use Rattle.types.specs.Types.{Ty, int, bool, pair, list}
use Rattle.lang.specs.Values.{Val}

-- a length as an int
abbrev pub count : ℕ → Int
count n = int_of (pos n)

-- what f gives for each element, one after the other
abbrev pub flat_map : {A B : Type 0} → (A → List B) → List A → List B
flat_map f [] = []
flat_map f (x ∷ xs) = f x ++ flat_map f xs

-- the cells of a value, as many as its size: an int, a flag, both halves of a pair, a list's length and then its elements
abbrev pub cells : (t : Ty) → Val t → List Int
cells int v = v ∷ []
cells bool v = flag v ∷ []
cells (pair a b) v = cells a v.0 ++ cells b v.1
cells (list a) v = count (length v) ∷ flat_map (cells a) v

-- the vectors of some values, as many as the type has parts: the ints, the flags, those of both halves, the lengths and then those of
-- the elements of all
abbrev pub vectors : (t : Ty) → List (Val t) → List (List Int)
vectors int vs = vs ∷ []
vectors bool vs = map flag vs ∷ []
vectors (pair a b) vs = vectors a (map (λ v. v.0) vs) ++ vectors b (map (λ v. v.1) vs)
vectors (list a) vs = map (λ v. count (length v)) vs ∷ vectors a (concat vs)
