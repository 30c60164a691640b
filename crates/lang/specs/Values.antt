-- The values of each type, and their sizes.
use Rattle.std.specs.Prelude.{ℕ, ◌+◌, Bool, List, [], ◌∷◌}
use Rattle.monoid.specs.declared.int.Int.{Int}
use Rattle.types.specs.Types.{Ty, int, bool, pair, list}

abbrev pub Val : Ty → Type 0
Val int = Int
Val bool = Bool
Val (pair a b) = Val a × Val b
Val (list a) = List (Val a)

-- the sum of f over a list
abbrev pub sum_by : {A : Type 0} → (A → ℕ) → List A → ℕ
sum_by f [] = 0
sum_by f (x ∷ xs) = f x + sum_by f xs

-- an int or a bool has size 1, a pair the sizes of both, a list 1 more than its elements together
abbrev pub size : (t : Ty) → Val t → ℕ
size int v = 1
size bool v = 1
size (pair a b) v = size a v.0 + size b v.1
size (list a) v = 1 + sum_by (size a) v
