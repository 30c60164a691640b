-- How many vectors and cells there are, and what is side by side.
use Rattle.std.proofs.Common.{◌≡◌, ℕ, zero, suc, ◌+◌, ◌≤◌, List, [], ◌∷◌, ◌++◌, map, length, sym, refl, ap, ◌∙◌, append_assoc, add-zero, arith, length-append}
use Rattle.std.proofs.lemmas.List.{length-map, map-append}
use Rattle.monoid.specs.Segments.{concat}
use Rattle.monoid.specs.declared.int.Int.{Int}
use Rattle.types.specs.Types.{Ty, int, bool, pair, list}
use Rattle.lang.specs.Values.{Val, size, sum_by}
use Rattle.lang.specs.Layout.{cells, vectors, flat_map}
use Rattle.vectors.specs.Vectors.{beside, part}
use Rattle.vectors.specs.Laws.{PartsLaw, SizeLaw, AppendLaw, CellsLaw}

-- sums
pub sum-append : {A : Type 0} (f : A → ℕ) (xs ys : List A) → sum_by f (xs ++ ys) ≡ sum_by f xs + sum_by f ys
sum-append f [] ys = omega arith
sum-append f (x ∷ xs) ys = simp (sum-append f xs ys) (omega arith)

sum-concat : {A : Type 0} (f : A → ℕ) (xss : List (List A)) → sum_by f (concat xss) ≡ sum_by (λ xs. sum_by f xs) xss
sum-concat f [] = refl
sum-concat f (xs ∷ xss) = simp (sum-append, sum-concat f xss)

sum-map : {A B : Type 0} (f : B → ℕ) (g : A → B) (xs : List A) → sum_by f (map g xs) ≡ sum_by (λ x. f (g x)) xs
sum-map f g [] = refl
sum-map f g (x ∷ xs) = simp (sum-map f g xs)

pub same_sums : {A B : Type 0} (f : A → ℕ) (g : B → ℕ) (xs : List A) (ys : List B) → map f xs ≡ map g ys → sum_by f xs ≡ sum_by g ys
same_sums f g xs ys e = sym (sum-map (λ n. n) f xs) ∙ ap (sum_by (λ n. n)) e ∙ sum-map (λ n. n) g ys

sum-plus : {A : Type 0} (f g : A → ℕ) (xs : List A) → sum_by (λ x. f x + g x) xs ≡ sum_by f xs + sum_by g xs
sum-plus f g [] = refl
sum-plus f g (x ∷ xs) = simp (sum-plus f g xs) (omega arith)

sum-suc : {A : Type 0} (f : A → ℕ) (xs : List A) → sum_by (λ x. 1 + f x) xs ≡ length xs + sum_by f xs
sum-suc f [] = refl
sum-suc f (x ∷ xs) = simp (sum-suc f xs) (omega arith)

sum_ones : {A : Type 0} (xs : List A) → sum_by (λ x. 1) xs ≡ length xs
sum_ones [] = refl
sum_ones (x ∷ xs) = simp (sum_ones xs) (omega arith)

-- vectors
pub number : PartsLaw
number int vs = refl
number bool vs = refl
number (pair a b) vs = simp (length-append, number a, number b)
number (list a) vs = omega (arith, number a (concat vs))

pub sized : SizeLaw
sized int vs = simp (sum_ones, add-zero)
sized bool vs = simp (sum_ones, add-zero, length-map)
sized (pair a b) vs = simp (sum-append, sum-plus, sized a, sized b, sum-map)
sized (list a) vs = simp (sized a, sum-concat, length-map, sum-suc)

beside-append : (ps qs rs ss : List (List Int)) → length ps ≡ length rs → beside (ps ++ qs) (rs ++ ss) ≡ beside ps rs ++ beside qs ss
beside-append [] qs [] ss e = refl
beside-append [] qs (r ∷ rs) ss e = absurd (omega arith)
beside-append (p ∷ ps) qs [] ss e = absurd (omega arith)
beside-append (p ∷ ps) qs (r ∷ rs) ss e = ap (λ xs. (p ++ r) ∷ xs) (beside-append ps qs rs ss (omega arith))

pub concat-append : {A : Type 0} (xss yss : List (List A)) → concat (xss ++ yss) ≡ concat xss ++ concat yss
concat-append [] yss = refl
concat-append (xs ∷ xss) yss = simp (append_assoc, concat-append xss yss)

pub appended : AppendLaw
appended int vs ws = refl
appended bool vs ws = simp map-append
appended (pair a b) vs ws =
    let va = vectors a (map (λ v. v.0) vs) in
    let wa = vectors a (map (λ v. v.0) ws) in
    let same : length va ≡ length wa = number a (map (λ v. v.0) vs) ∙ sym (number a (map (λ v. v.0) ws)) in
    simp (map-append, appended a, appended b) (sym (beside-append va (vectors b (map (λ v. v.1) vs)) wa (vectors b (map (λ v. v.1) ws)) same))
appended (list a) vs ws = simp (map-append, concat-append, appended a)

-- part by part
part-beside : (ps qs : List (List Int)) (k : ℕ) → length ps ≡ length qs → part (beside ps qs) k ≡ part ps k ++ part qs k
part-beside [] [] k e = refl
part-beside [] (q ∷ qs) k e = absurd (omega arith)
part-beside (p ∷ ps) [] k e = absurd (omega arith)
part-beside (p ∷ ps) (q ∷ qs) zero e = refl
part-beside (p ∷ ps) (q ∷ qs) (suc k) e = part-beside ps qs k (omega arith)

pub part-append : (t : Ty) (vs ws : List (Val t)) (k : ℕ) → part (vectors t (vs ++ ws)) k ≡ part (vectors t vs) k ++ part (vectors t ws) k
part-append t vs ws k = rw (appended t vs ws) (part-beside (vectors t vs) (vectors t ws) k (number t vs ∙ sym (number t ws)))

-- cells
length_each : {A B : Type 0} (f : A → List B) (n : A → ℕ) → ((x : A) → length (f x) ≡ n x) → (xs : List A) → length (flat_map f xs) ≡ sum_by n xs
length_each f n e [] = refl
length_each f n e (x ∷ xs) = omega (arith, length-append (f x) (flat_map f xs), e x, length_each f n e xs)

pub each_append : {A B : Type 0} (f : A → List B) (xs ys : List A) → flat_map f (xs ++ ys) ≡ flat_map f xs ++ flat_map f ys
each_append f [] ys = refl
each_append f (x ∷ xs) ys = simp (append_assoc, each_append f xs ys)

pub celled : CellsLaw
celled int v = refl
celled bool v = refl
celled (pair a b) v = omega (arith, length-append (cells a v.0) (cells b v.1), celled a v.0, celled b v.1)
celled (list a) v = omega (arith, length_each (cells a) (size a) (celled a) v)

-- a value has a size
pub some_size : (t : Ty) (v : Val t) → 1 ≤ size t v
some_size int v = omega arith
some_size bool v = omega arith
some_size (pair a b) v = omega (arith, some_size a v.0)
some_size (list a) v = omega arith

pub few : (t : Ty) (vs : List (Val t)) → length vs ≤ sum_by (size t) vs
few t [] = omega arith
few t (v ∷ vs) = omega (arith, some_size t v, few t vs)

-- the sizes of both halves, and of the elements of all
pub sum_halves : (a b : Ty) (vs : List (Val (pair a b)))
    → sum_by (size (pair a b)) vs ≡ sum_by (size a) (map (λ v. v.0) vs) + sum_by (size b) (map (λ v. v.1) vs)
sum_halves a b vs = simp (sum-plus, sum-map)

pub sum-elements : (a : Ty) (vs : List (Val (list a))) → sum_by (size (list a)) vs ≡ length vs + sum_by (size a) (concat vs)
sum-elements a vs = simp (sum-suc, sum-concat)
