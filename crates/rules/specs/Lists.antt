-- Lists side by side, by flags and by lengths.
use Rattle.std.specs.Prelude.{ℕ, zero, suc, Bool, true, false, ◌&&◌, List, [], ◌∷◌, map, take, drop}
use Rattle.std.proofs.Math.Option.{Option, none, some}

abbrev pub zip : {A B : Type 0} → List A → List B → List (A × B)
zip [] ys = []
zip (x ∷ xs) [] = []
zip (x ∷ xs) (y ∷ ys) = (x, y) ∷ zip xs ys

-- those whose flag is up
abbrev pub pack : {A : Type 0} → List Bool → List A → List A
pack [] xs = []
pack (f ∷ fs) [] = []
pack (true ∷ fs) (x ∷ xs) = x ∷ pack fs xs
pack (false ∷ fs) (x ∷ xs) = pack fs xs

-- the next of xs where the flag is up, else of ys
abbrev pub merge : {A : Type 0} → List Bool → List A → List A → List A
merge [] xs ys = []
merge (true ∷ fs) [] ys = []
merge (true ∷ fs) (x ∷ xs) ys = x ∷ merge fs xs ys
merge (false ∷ fs) xs [] = []
merge (false ∷ fs) xs (y ∷ ys) = y ∷ merge fs xs ys

-- how many flags are up
abbrev pub count : List Bool → ℕ
count [] = 0
count (true ∷ fs) = suc (count fs)
count (false ∷ fs) = count fs

-- how many flags are up in each of the lists of these lengths
abbrev pub counts : List ℕ → List Bool → List ℕ
counts [] fs = []
counts (n ∷ ns) fs = count (take n fs) ∷ counts ns (drop n fs)

-- for each list its elements, each with what stands beside the list
abbrev pub rows : {A R : Type 0} → List (List A) → List R → List (List (A × R))
rows xss ρs = map (λ q. map (λ x. (x, q.1)) q.0) (zip xss ρs)

abbrev pub all_of : {A : Type 0} → (A → Bool) → List A → Bool
all_of f [] = true
all_of f (x ∷ xs) = f x && all_of f xs

-- the element at a place, from 0
abbrev pub nth : {A : Type 0} → List A → ℕ → Option A
nth [] i = none
nth (x ∷ xs) zero = some x
nth (x ∷ xs) (suc i) = nth xs i

-- the numbers below n, from 0
abbrev pub below : ℕ → List ℕ
below zero = []
below (suc n) = 0 ∷ map suc (below n)

abbrev pub given : {A : Type 0} → Bool → A → Option A
given true a = some a
given false a = none

abbrev pub cons_o : {A : Type 0} → Option A → Option (List A) → Option (List A)
cons_o none os = none
cons_o (some y) none = none
cons_o (some y) (some ys) = some (y ∷ ys)

-- all of them, or none where one has none
abbrev pub every : {A B : Type 0} → (A → Option B) → List A → Option (List B)
every f [] = some []
every f (x ∷ xs) = cons_o (f x) (every f xs)
