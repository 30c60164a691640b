-- Parts are cut exactly where lists of these lengths stand side by side; the ints of a range do not wrap.
use Rattle.std.proofs.Common.{◌≡◌, ℕ, zero, suc, ◌+◌, ◌^◌, ◌<◌, ◌≤◌, Bool, true, false, ◌&&◌, eqb, List, [], ◌∷◌, ◌++◌, map, length, take, drop, ℤ, pos, negsuc, ◌+ℤ◌, sym, refl, ap, ◌∙◌, ap₂, arith, length-append, length-drop, take-append-drop}
use mathlib.Core.Option.{some}
use lib.Signed.{non_neg, mag}
use mir.Val.{hbits}
use Rattle.std.proofs.lemmas.List.{length-take-le}
use Rattle.std.proofs.lemmas.Int.{int_wrap_fits}
use Rattle.monoid.specs.declared.int.Int.{Int}
use Rattle.monoid.specs.Ints.{width, int_of, exact_sum}
use Rattle.monoid.specs.Segments.{concat, cut}
use Rattle.monoid.proofs.Segments.{cut-concat}
use Rattle.rules.specs.Arithmetic.{same_number, many}
use Rattle.rules.specs.Lists.{all_of, given, below}
use Rattle.rules.specs.Primitives.{parted}
use Rattle.rules.specs.Meaning.{ListsLaw}

abbrev values : List Int → List ℤ
values c = map (λ n. n.value) c

abbrev lengths : List Int → List ℕ
lengths c = map (λ n. many n.value) c

total : List ℕ → ℕ
total [] = 0
total (n ∷ ns) = n + total ns

head-same : (a b : ℤ) (xs ys : List ℤ) → a ∷ xs ≡ b ∷ ys → a ≡ b
head-same a b xs ys h = cc

tail_same : (a b : ℤ) (xs ys : List ℤ) → a ∷ xs ≡ b ∷ ys → xs ≡ ys
tail_same a b xs ys h = cc

-- what is given, and only where the test is true
given_is : {A : Type 0} (t : Bool) (a b : A) → given t a ≡ some b → (t ≡ true) × (a ≡ b)
given_is true a b h = (refl, cc)
given_is false a b h = absurd cc

both_true : (a b : Bool) → a && b ≡ true → (a ≡ true) × (b ≡ true)
both_true true b h = (refl, h)
both_true false b h = absurd cc

natural : (z : ℤ) → non_neg z ≡ true → z ≡ pos (many z)
natural (pos n) h = refl
natural (negsuc n) h = absurd cc

same-is : (a b : ℤ) → same_number a b ≡ true → a ≡ b
same-is (pos a) (pos b) h = ap pos (grind arith)
same-is (pos a) (negsuc b) h = absurd cc
same-is (negsuc a) (pos b) h = absurd cc
same-is (negsuc a) (negsuc b) h = ap negsuc (grind arith)

is_same : (n : ℕ) → eqb n n ≡ true
is_same n = grind arith

pos_same : (a b : ℕ) → pos a ≡ pos b → a ≡ b
pos_same a b h = cc

-- ints none of which is negative are their lengths
all_natural : (c : List Int) → all_of (λ n. non_neg n.value) c ≡ true → values c ≡ map pos (lengths c)
all_natural [] h = refl
all_natural (n ∷ c) h =
    let k = both_true (non_neg n.value) (all_of (λ n. non_neg n.value) c) h in
    ap₂ (λ (z : ℤ) (zs : List ℤ). z ∷ zs) (natural n.value k.0) (all_natural c k.1)

naturals : (c : List Int) (ns : List ℕ) → values c ≡ map pos ns → (all_of (λ n. non_neg n.value) c ≡ true) × (lengths c ≡ ns)
naturals [] [] h = (refl, refl)
naturals [] (n ∷ ns) h = absurd cc
naturals (m ∷ c) [] h = absurd cc
naturals (m ∷ c) (n ∷ ns) h =
    let first = head-same m.value (pos n) (values c) (map pos ns) h in
    let rest = naturals c ns (tail_same m.value (pos n) (values c) (map pos ns) h) in
    (ap₂ (λ (z : ℤ) (b : Bool). non_neg z && b) first rest.0, ap₂ (λ (z : ℤ) (ks : List ℕ). many z ∷ ks) first rest.1)

exact : (c : List Int) (ns : List ℕ) → values c ≡ map pos ns → exact_sum c ≡ pos (total ns)
unfolding total
exact [] [] h = refl
exact [] (n ∷ ns) h = absurd cc
exact (m ∷ c) [] h = absurd cc
exact (m ∷ c) (n ∷ ns) h =
    ap₂ (λ a b. a +ℤ b) (head-same m.value (pos n) (values c) (map pos ns) h) (exact c ns (tail_same m.value (pos n) (values c) (map pos ns) h))

module _ {A : Type 0} where
  lengths_cut : (xs : List A) (ns : List ℕ) → total ns ≤ length xs → map length (cut xs ns) ≡ ns
  unfolding total
  lengths_cut xs [] h = refl
  lengths_cut xs (n ∷ ns) h =
      ap₂ (λ (k : ℕ) (ks : List ℕ). k ∷ ks) (length-take-le n xs (omega arith)) (lengths_cut (drop n xs) ns (let e = length-drop n xs in omega arith))

  no_length : (xs : List A) → length xs ≡ 0 → [] ≡ xs
  no_length [] h = refl
  no_length (x ∷ xs) h = absurd (omega arith)

  concat-cut : (xs : List A) (ns : List ℕ) → total ns ≡ length xs → concat (cut xs ns) ≡ xs
  unfolding total
  concat-cut xs [] h = no_length xs (sym h)
  concat-cut xs (n ∷ ns) h =
      ap (λ ys. take n xs ++ ys) (concat-cut (drop n xs) ns (let e = length-drop n xs in omega arith)) ∙ take-append-drop n xs

  total_lengths : (yss : List (List A)) → total (map length yss) ≡ length (concat yss)
  unfolding total
  total_lengths [] = refl
  total_lengths (ys ∷ yss) = ap (λ n. length ys + n) (total_lengths yss) ∙ sym (length-append ys (concat yss))

  pos_lengths : (yss : List (List A)) → map (λ ys. pos (length ys)) yss ≡ map pos (map length yss)
  pos_lengths [] = refl
  pos_lengths (ys ∷ yss) = ap (λ zs. pos (length ys) ∷ zs) (pos_lengths yss)

  parts_of_parted : (xs : List A) (c : List Int) (yss : List (List A)) → parted xs c ≡ some yss →
      (concat yss ≡ xs) × (map (λ ys. pos (length ys)) yss ≡ values c)
  parts_of_parted xs c yss h =
      let g = given_is (all_of (λ n. non_neg n.value) c && same_number (exact_sum c) (pos (length xs))) (cut xs (lengths c)) yss h in
      let t = both_true (all_of (λ n. non_neg n.value) c) (same_number (exact_sum c) (pos (length xs))) g.0 in
      let v = all_natural c t.0 in
      let e : total (lengths c) ≡ length xs = pos_same _ _ (sym (exact c (lengths c) v) ∙ same-is (exact_sum c) (pos (length xs)) t.1) in (
        ap concat (sym g.1) ∙ concat-cut xs (lengths c) e,
        pos_lengths yss ∙ ap (λ zss. map pos (map length zss)) (sym g.1) ∙ ap (map pos) (lengths_cut xs (lengths c) (omega arith)) ∙ sym v,
      )

  of_parts : (xs : List A) (c : List Int) (yss : List (List A)) → concat yss ≡ xs → map (λ ys. pos (length ys)) yss ≡ values c →
      parted xs c ≡ some yss
  of_parts xs c yss side long =
      let v : values c ≡ map pos (map length yss) = sym long ∙ pos_lengths yss in
      let n = naturals c (map length yss) v in
      let s : exact_sum c ≡ pos (length xs) = exact c (map length yss) v ∙ ap pos (total_lengths yss ∙ ap length side) in
      let t : same_number (exact_sum c) (pos (length xs)) ≡ true = ap (λ z. same_number z (pos (length xs))) s ∙ is_same (length xs) in
      ap₂ (λ a b. given (a && b) (cut xs (lengths c))) n.0 t
      ∙ ap some (ap₂ (λ zs ks. cut zs ks) (sym side) n.1 ∙ cut-concat yss)

-- ---- ranges
abbrev Under : ℕ → List ℕ → Type 0
Under h [] = Unit {0}
Under h (i ∷ is) = (i < h) × Under h is

under-suc : (h : ℕ) (is : List ℕ) → Under h is → Under (suc h) (map suc is)
under-suc h [] u = tt
under-suc h (i ∷ is) u = (let l = u.0 in omega arith, under-suc h is u.1)

below-under : (n : ℕ) → Under n (below n)
below-under zero = tt
below-under (suc n) = (omega arith, under-suc n (below n) (below-under n))

small_values : (h : ℕ) (is : List ℕ) → h ≤ 2 ^ hbits width → Under h is → values (map (λ i. int_of (pos i)) is) ≡ map pos is
small_values h [] m u = refl
small_values h (i ∷ is) m u =
    let l = u.0 in
    ap₂ (λ (z : ℤ) (zs : List ℤ). z ∷ zs) (int_wrap_fits width (pos i) (record { sfits = omega arith })) (small_values h is m u.1)

many_small : (z : ℤ) → mag z < 2 ^ hbits width → many z ≤ 2 ^ hbits width
many_small (pos n) h = omega arith
many_small (negsuc n) h = omega arith

pub lists_law : ListsLaw
lists_law = record {
  parts = λ H a xs c yss. ((λ h. parts_of_parted xs c yss h), (λ h. of_parts xs c yss h.0 h.1));
  ranges = λ H n is h.
      let k = many n.value in
      ap values (sym (cc)) ∙ small_values k (below k) (many_small n.value n.ok) (below-under k);
}
