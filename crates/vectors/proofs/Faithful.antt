-- No other values have the same vectors, and no other value the same cells.
use Rattle.std.proofs.Common.{◌≡◌, ℕ, Bool, true, false, List, [], ◌∷◌, ◌++◌, map, length, pos, Some, None, Option, sym, refl, ap, ◌∙◌, ap₂, append_assoc, arith, length-append}
use Rattle.std.proofs.lemmas.List.{take_at, drop_at}
use Rattle.std.proofs.lemmas.Int.{ints, int_wrap_fits}
use Rattle.monoid.specs.Ints.{width}
use Rattle.monoid.specs.Segments.{concat, cut}
use Rattle.monoid.specs.declared.int.Int.{Int}
use Rattle.monoid.proofs.Segments.{cut-concat}
use Rattle.types.specs.Types.{Ty, int, bool, pair, list, parts}
use Rattle.lang.specs.Values.{Val, size, sum_by}
use Rattle.lang.specs.Layout.{cells, vectors, flat_map, flag, count}
use Rattle.vectors.specs.Vectors.{Countable}
use Rattle.vectors.specs.Walking.{IsLength}
use Rattle.vectors.specs.Laws.{VectorsFaithful, LayoutFaithful, CellsFaithful, VectorLaws, CellLaws}
use Rattle.vectors.proofs.Sums.{number, sized, appended, celled, few, sum_halves, sum-elements}

-- ---- ints
pub count-is : (n : ℕ) → Countable n → (count n).value ≡ pos n
count-is n h = int_wrap_fits width (pos n) (record { sfits = h })

pub same_count : (m n : ℕ) → Countable m → Countable n → count m ≡ count n → m ≡ n
same_count m n h l e = let z : pos m ≡ pos n = cc (count-is m h, count-is n l) in cc

-- an int that stands for a length is read as that length
pub length_is : (x : Int) (n : ℕ) → Countable n → x ≡ count n → (r : Option ℕ) → IsLength x r → r ≡ Some n
length_is x n h e (Some m) is = let z : pos m ≡ pos n = sym is ∙ ap (λ y. y.value) e ∙ count-is n h in cc
length_is x n h e None is = let z : x.value ≡ pos n = ap (λ y. y.value) e ∙ count-is n h in absurd (omega (arith, ints))

same_flag : (b c : Bool) → flag b ≡ flag c → b ≡ c
same_flag true true e = refl
same_flag true false e = absurd (omega (arith, ints, ap (λ x. x.value) e))
same_flag false true e = absurd (omega (arith, ints, ap (λ x. x.value) e))
same_flag false false e = refl

same_flags : (bs cs : List Bool) → map flag bs ≡ map flag cs → bs ≡ cs
same_flags [] [] e = refl
same_flags [] (c ∷ cs) e = cc
same_flags (b ∷ bs) [] e = cc
same_flags (b ∷ bs) (c ∷ cs) e = let p = same_flag b c (cc) in let q = same_flags bs cs (cc) in cc

-- ---- lists of pairs, and of lists
module _ {A B : Type 0} where
  same_pairs : (vs ws : List (A × B)) → map (λ v. v.0) vs ≡ map (λ v. v.0) ws → map (λ v. v.1) vs ≡ map (λ v. v.1) ws → vs ≡ ws
  same_pairs [] [] p q = refl
  same_pairs [] (w ∷ ws) p q = cc
  same_pairs (v ∷ vs) [] p q = cc
  same_pairs ((a, b) ∷ vs) ((c, d) ∷ ws) p q = let rest = same_pairs vs ws (cc) (cc) in cc

module _ {A : Type 0} where
  same_lengths : (vs ws : List (List A)) → Countable (length (concat vs)) → Countable (length (concat ws))
      → map (λ v. count (length v)) vs ≡ map (λ v. count (length v)) ws → map length vs ≡ map length ws
  same_lengths [] [] h l e = refl
  same_lengths [] (w ∷ ws) h l e = cc
  same_lengths (v ∷ vs) [] h l e = cc
  same_lengths (v ∷ vs) (w ∷ ws) h l e =
      let p = length-append v (concat vs) in
      let q = length-append w (concat ws) in
      let here = same_count (length v) (length w) (omega arith) (omega arith) (cc) in
      let rest = same_lengths vs ws (omega arith) (omega arith) (cc) in
      cc

  same-concat : (vs ws : List (List A)) → map length vs ≡ map length ws → concat vs ≡ concat ws → vs ≡ ws
  same-concat vs ws e f = sym (cut-concat vs) ∙ ap₂ (λ (x : List A) (d : List ℕ). cut x d) f e ∙ cut-concat ws

-- ---- vectors
pub same-sizes : (t : Ty) (vs ws : List (Val t)) → vectors t vs ≡ vectors t ws → sum_by (size t) vs ≡ sum_by (size t) ws
same-sizes t vs ws e = cc (sized t vs, sized t ws)

-- lists side by side, where the first are as long
side_by_side : {A : Type 0} (ps qs rs ss : List A) (n : ℕ) → length ps ≡ n → length qs ≡ n → ps ++ rs ≡ qs ++ ss → (ps ≡ qs) × (rs ≡ ss)
side_by_side ps qs rs ss n p q e = (cc (take_at ps rs n p, take_at qs ss n q), cc (drop_at ps rs n p, drop_at qs ss n q))

pub faithful : VectorsFaithful
faithful int vs ws h e = cc
faithful bool vs ws h e = same_flags vs ws (cc)
faithful (pair a b) vs ws h e =
    let firsts = λ (us : List (Val a × Val b)). map (λ (v : Val a × Val b). v.0) us in
    let seconds = λ (us : List (Val a × Val b)). map (λ (v : Val a × Val b). v.1) us in
    let halves = sum_halves a b vs in
    let both = side_by_side (vectors a (firsts vs)) (vectors a (firsts ws)) (vectors b (seconds vs)) (vectors b (seconds ws)) (parts a)
    (number a (firsts vs)) (number a (firsts ws)) e in
    same_pairs vs ws (faithful a (firsts vs) (firsts ws) (omega arith) both.0) (faithful b (seconds vs) (seconds ws) (omega arith) both.1)
faithful (list a) vs ws h e =
    let sizes = same-sizes (list a) vs ws e in
    let mine = sum-elements a vs in
    let theirs = sum-elements a ws in
    let elements = faithful a (concat vs) (concat ws) (omega arith) (cc) in
    let lengths = same_lengths vs ws (omega (arith, few a (concat vs))) (omega (arith, few a (concat ws))) (cc) in
    same-concat vs ws lengths elements

-- ---- cells
each_faithful : {A : Type 0} (f : A → List Int) (n : A → ℕ)
    → ((v w : A) (xs ys : List Int) → Countable (n v) → Countable (n w) → f v ++ xs ≡ f w ++ ys → (v ≡ w) × (xs ≡ ys))
    → (vs ws : List A) (xs ys : List Int) → length vs ≡ length ws → Countable (sum_by n vs) → Countable (sum_by n ws)
    → flat_map f vs ++ xs ≡ flat_map f ws ++ ys → (vs ≡ ws) × (xs ≡ ys)
each_faithful f n one [] [] xs ys l h k e = (refl, e)
each_faithful f n one [] (w ∷ ws) xs ys l h k e = absurd (omega arith)
each_faithful f n one (v ∷ vs) [] xs ys l h k e = absurd (omega arith)
each_faithful f n one (v ∷ vs) (w ∷ ws) xs ys l h k e =
    let here = one v w (flat_map f vs ++ xs) (flat_map f ws ++ ys) (omega arith) (omega arith)
    (cc (append_assoc (f v) (flat_map f vs) xs, append_assoc (f w) (flat_map f ws) ys)) in
    let rest = each_faithful f n one vs ws xs ys (omega arith) (omega arith) (omega arith) here.1 in
    (cc, rest.1)

pub cells_faithful : CellsFaithful
cells_faithful int v w xs ys h k e = (cc, cc)
cells_faithful bool v w xs ys h k e = (same_flag v w (cc), cc)
cells_faithful (pair a b) v w xs ys h k e =
    let left = cells_faithful a v.0 w.0 (cells b v.1 ++ xs) (cells b w.1 ++ ys) (omega arith) (omega arith)
    (cc (append_assoc (cells a v.0) (cells b v.1) xs, append_assoc (cells a w.0) (cells b w.1) ys)) in
    let right = cells_faithful b v.1 w.1 xs ys (omega arith) (omega arith) left.1 in
    (ap₂ (λ (x : Val a) (y : Val b). (x, y)) left.0 right.0, right.1)
cells_faithful (list a) v w xs ys h k e =
    each_faithful (cells a) (size a) (cells_faithful a) v w xs ys
    (same_count (length v) (length w) (omega (arith, few a v)) (omega (arith, few a w)) (cc)) (omega arith) (omega arith) (cc)

pub layout_faithful : LayoutFaithful
layout_faithful t v w ints spans h p q =
    let same = faithful t (v ∷ []) (w ∷ []) (omega arith) (cc) in
    cc

pub vector_laws : VectorLaws
vector_laws = record { number = number; sizes = sized; append = appended; faithful = faithful; layouts = layout_faithful }

pub cell_laws : CellLaws
cell_laws = record { sizes = celled; faithful = cells_faithful }
