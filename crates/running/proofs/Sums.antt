-- Sums over lists, and lists that are cut.
use Rattle.std.proofs.Common.{◌≡◌, ℕ, zero, suc, ◌+◌, ◌*◌, true, ◌&&◌, List, [], ◌∷◌, ◌++◌, map, length, take, drop, ℤ, pos, negsuc, ◌+ℤ◌, sym, refl, ap, ◌∙◌, arith, length-drop}
use lib.Signed.{non_neg}
use Rattle.std.proofs.lemmas.Bool.{and_parts, eqb-true, false≢true}
use Rattle.std.proofs.lemmas.List.{nil_from_length, take-append-drop}
use Rattle.monoid.specs.declared.int.Int.{Int}
use Rattle.monoid.specs.Ints.{exact_sum}
use Rattle.monoid.specs.Segments.{concat, cut}
use Rattle.lang.specs.Values.{sum_by}
use Rattle.rules.specs.Lists.{all_of}
use Rattle.rules.specs.Arithmetic.{same_number, many}
use Rattle.running.specs.Words.{Each}

pub sum-append : {A : Type 0} (f : A → ℕ) (xs ys : List A) → sum_by f (xs ++ ys) ≡ sum_by f xs + sum_by f ys
sum-append f [] ys = omega arith
sum-append f (x ∷ xs) ys = omega (arith, sum-append f xs ys)

pub sum-concat : {A : Type 0} (f : A → ℕ) (xss : List (List A)) → sum_by (sum_by f) xss ≡ sum_by f (concat xss)
sum-concat f [] = refl
sum-concat f (xs ∷ xss) = ap (λ n. sum_by f xs + n) (sum-concat f xss) ∙ sym (sum-append f xs (concat xss))

-- one more for each
pub sum_more : {A : Type 0} (f : A → ℕ) (xs : List A) → sum_by (λ x. 1 + f x) xs ≡ length xs + sum_by f xs
sum_more f [] = refl
sum_more f (x ∷ xs) = omega (arith, sum_more f xs)

pub sum_const : {A : Type 0} (f : A → ℕ) (k : ℕ) → ((x : A) → f x ≡ k) → (xs : List A) → sum_by f xs ≡ length xs * k
sum_const f k e [] = omega arith
sum_const f k e (x ∷ xs) = omega (arith, e x, sum_const f k e xs)

pub sum-map : {A C : Type 0} (f : C → ℕ) (g : A → C) (xs : List A) → sum_by f (map g xs) ≡ sum_by (λ x. f (g x)) xs
sum-map f g [] = refl
sum-map f g (x ∷ xs) = ap (λ n. f (g x) + n) (sum-map f g xs)

-- lengths that come to all of a list cut it into itself
pub cut_whole : {A : Type 0} (xs : List A) (ns : List ℕ) → sum_by (λ n. n) ns ≡ length xs → concat (cut xs ns) ≡ xs
cut_whole xs [] e = sym (nil_from_length xs (sym e))
cut_whole xs (n ∷ ns) e =
    let rest : sum_by (λ n. n) ns ≡ length (drop n xs) = simp length-drop (omega arith) in
    ap (λ ys. take n xs ++ ys) (cut_whole (drop n xs) ns rest) ∙ take-append-drop n xs

plus-many : (z : ℤ) (s : ℕ) → non_neg z ≡ true → z +ℤ pos s ≡ pos (many z + s)
plus-many (pos a) s e = refl
plus-many (negsuc a) s e = absurd (false≢true e)

exact_many : (cs : List Int) → all_of (λ n. non_neg n.value) cs ≡ true → exact_sum cs ≡ pos (sum_by (λ n. many n.value) cs)
exact_many [] e = refl
exact_many (c ∷ cs) e =
    let q : (non_neg c.value ≡ true) × (all_of (λ n. non_neg n.value) cs ≡ true) = and_parts _ _ e in
    ap (λ z. c.value +ℤ z) (exact_many cs q.1) ∙ plus-many c.value (sum_by (λ n. many n.value) cs) q.0

-- lengths that are let pass come to all of the list
pub all-parted : (cs : List Int) (n : ℕ) → (all_of (λ n. non_neg n.value) cs && same_number (exact_sum cs) (pos n)) ≡ true →
    sum_by (λ n. n) (map (λ n. many n.value) cs) ≡ n
all-parted cs n e =
    let q : (all_of (λ n. non_neg n.value) cs ≡ true) × (same_number (exact_sum cs) (pos n) ≡ true) = and_parts _ _ e in
    let same : same_number (pos (sum_by (λ n. many n.value) cs)) (pos n) ≡ true = sym (ap (λ z. same_number z (pos n)) (exact_many cs q.0)) ∙
    q.1 in
    sum-map (λ n. n) (λ n. many n.value) cs ∙ eqb-true _ _ same

-- ---- one for each

pub each_append : {W X : Type 0} (R : W → X → Type 0) (us : List W) (xs : List X) (vs : List W) (ys : List X) → Each R us xs → Each R vs ys →
    Each R (us ++ vs) (xs ++ ys)
each_append R [] [] vs ys r q = q
each_append R [] (x ∷ xs) vs ys r q = absurd r
each_append R (u ∷ us) [] vs ys r q = absurd r
each_append R (u ∷ us) (x ∷ xs) vs ys r q = (r.0, each_append R us xs vs ys r.1 q)

pub each_take : {W X : Type 0} (R : W → X → Type 0) (n : ℕ) (us : List W) (xs : List X) → Each R us xs → Each R (take n us) (take n xs)
each_take R zero us xs r = tt
each_take R (suc n) [] [] r = tt
each_take R (suc n) [] (x ∷ xs) r = absurd r
each_take R (suc n) (u ∷ us) [] r = absurd r
each_take R (suc n) (u ∷ us) (x ∷ xs) r = (r.0, each_take R n us xs r.1)

pub each_drop : {W X : Type 0} (R : W → X → Type 0) (n : ℕ) (us : List W) (xs : List X) → Each R us xs → Each R (drop n us) (drop n xs)
each_drop R zero us xs r = r
each_drop R (suc n) [] [] r = tt
each_drop R (suc n) [] (x ∷ xs) r = absurd r
each_drop R (suc n) (u ∷ us) [] r = absurd r
each_drop R (suc n) (u ∷ us) (x ∷ xs) r = each_drop R n us xs r.1

pub each_cut : {W X : Type 0} (R : W → X → Type 0) (us : List W) (xs : List X) (ns : List ℕ) → Each R us xs → Each (Each R) (cut us ns) (cut xs ns)
each_cut R us xs [] r = tt
each_cut R us xs (n ∷ ns) r = (each_take R n us xs r, each_cut R (drop n us) (drop n xs) ns (each_drop R n us xs r))

pub each_mapped : {W X V : Type 0} (R : W → X → Type 0) (S : V → X → Type 0) (f : W → V) → ((w : W) (x : X) → R w x → S (f w) x) →
    (ws : List W) (xs : List X) → Each R ws xs → Each S (map f ws) xs
each_mapped R S f k [] [] r = tt
each_mapped R S f k [] (x ∷ xs) r = r
each_mapped R S f k (w ∷ ws) [] r = r
each_mapped R S f k (w ∷ ws) (x ∷ xs) r = (k w x r.0, each_mapped R S f k ws xs r.1)

-- each made from its own
pub each_made : {V X : Type 0} (S : V → X → Type 0) (f : X → V) → ((x : X) → S (f x) x) → (xs : List X) → Each S (map f xs) xs
each_made S f k [] = tt
each_made S f k (x ∷ xs) = (k x, each_made S f k xs)
