-- Segments side by side, and the places that the lift scans for them.
use Rattle.std.specs.Prelude.{ℕ, Bool, true, false, List, [], ◌∷◌, ◌++◌, map, take, drop}
use Rattle.monoid.specs.Laws.{product}
use Rattle.monoid.specs.declared.segmented.Segments.{Segments}

abbrev pub plain : {M : Type 0} → M → Bool × M
plain y = (false, y)

abbrev pub element : {M : Type 0} → Bool × M → M
element p = p.1

-- the head of a segment carries the flag
abbrev pub marked : {M : Type 0} → List M → List (Bool × M)
marked [] = []
marked (x ∷ xs) = (true, x) ∷ map plain xs

-- an empty segment has no place
abbrev pub places : {M : Type 0} → List (List M) → List (Bool × M)
places [] = []
places (xs ∷ xss) = marked xs ++ places xss

-- lists side by side
abbrev pub concat : {M : Type 0} → List (List M) → List M
concat [] = []
concat (xs ∷ xss) = xs ++ concat xss

-- v cut into lists of the lengths d
abbrev pub cut : {M : Type 0} → List M → List ℕ → List (List M)
cut v [] = []
cut v (n ∷ d) = take n v ∷ cut (drop n v) d

-- the lists of a value of such segments
abbrev pub lists : {M : Type 0} → Segments M → List (List M)
lists segments = cut segments.elements.now segments.lengths.now

-- the product of each segment: of an empty one, the unit
abbrev pub reduced : {M : Type 0} → M → (M → M → M) → List (List M) → List M
reduced unit op xss = map (product unit op) xss

-- the products before each element of xs, after a
abbrev pub running : {M : Type 0} → (M → M → M) → M → List M → List M
running op a [] = []
running op a (x ∷ xs) = a ∷ running op (op a x) xs

-- the scan of each segment by itself, side by side
abbrev pub scanned : {M : Type 0} → M → (M → M → M) → List (List M) → List M
scanned unit op [] = []
scanned unit op (xs ∷ xss) = running op unit xs ++ scanned unit op xss
