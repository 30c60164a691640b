-- Lists that grow at their end, read from there.
use Rattle.std.proofs.Common.{◌≡◌, ℕ, suc, ◌+◌, ◌-◌, ◌<◌, ◌≤◌, ◌⊎◌, List, [], ◌∷◌, ◌++◌, map, reverse, length, get_or, take, drop, sym, refl, ap, ◌∙◌, subst, inl, inr, arith, length-drop, length-take}
use lib.ListN.{length-reverse, length-map}
use Rattle.std.proofs.Math.ListN.{get_or-map as get_or-map-default}
use Rattle.std.proofs.lemmas.List.{reverse-append, take-append-drop, drop_at, drop_all, get_or_append_left, get_or_push, get_or_past, get_or_default, get_or-drop, get_or-take, get_or-map, get_or-reverse, length_push, map_push, take-map}
use Rattle.std.proofs.lemmas.Bool.{cases_lt}
use Rattle.std.specs.List.{slice_get}
use Rattle.std.specs.Option.{unwrap_or}
use Rattle.std.specs.Prelude.{Option}
use Rattle.std.proofs.lemmas.Option.{unwrap_or-slice_get}
use Rattle.typing.specs.Codes.{Under}

pub reverse_push : {X : Type 0} (xs : List X) (x : X) → reverse (xs ++ x ∷ []) ≡ x ∷ reverse xs
reverse_push xs x = reverse-append xs (x ∷ [])

pub reverse_cons : {X : Type 0} (x : X) (xs : List X) → reverse (x ∷ xs) ≡ reverse xs ++ x ∷ []
reverse_cons x xs = reverse-append (x ∷ []) xs

pub map-reverse : {X Y : Type 0} (f : X → Y) (xs : List X) → map f (reverse xs) ≡ reverse (map f xs)
map-reverse f [] = refl
map-reverse f (x ∷ xs) =
    ap (map f) (reverse_cons x xs) ∙ map_push f (reverse xs) x ∙ ap (λ l. l ++ f x ∷ []) (map-reverse f xs) ∙ sym (reverse_cons (f x) (map f xs))

-- taking k off the end
pub reverse-take : {X : Type 0} (xs : List X) (k m : ℕ) → m ≡ length xs - k → reverse (take m xs) ≡ drop k (reverse xs)
reverse-take xs k m e = by (cases_lt (length xs) k)
  where
    by : (length xs < k) ⊎ (k ≤ length xs) → reverse (take m xs) ≡ drop k (reverse xs)
    by (inl h) =
        let z : m ≡ 0 = omega arith in
        ap (λ n. reverse (take n xs)) z ∙ sym (drop_all k (reverse xs) (omega (arith, length-reverse xs)))
    by (inr h) =
        let l : length (reverse (drop m xs)) ≡ k = omega (arith, length-reverse (drop m xs), length-drop m xs) in
        sym (drop_at (reverse (drop m xs)) (reverse (take m xs)) k l) ∙ ap (drop k) (sym (reverse-append (take m xs) (drop m xs)) ∙ ap reverse (take-append-drop m xs))

pub maps_same : {X Y : Type 0} (f g : X → Y) (xs : List X) → ((i : ℕ) (d : X) → i < length xs → f (get_or xs i d) ≡ g (get_or xs i d)) → map f xs ≡ map g xs
maps_same f g [] h = refl
maps_same f g (x ∷ xs) h =
    let a : f x ≡ g x = h 0 x (omega arith) in
    let b : map f xs ≡ map g xs = maps_same f g xs (λ i d l. h (suc i) d (omega arith)) in
    ap (λ y. y ∷ map f xs) a ∙ ap (λ l. g x ∷ l) b

-- numbers below n
pub under_push : (n : ℕ) (xs ys : List ℕ) (x : ℕ) → Under n xs → x < n → ys ≡ xs ++ x ∷ [] → Under n ys
under_push n xs ys x h l e i = subst (λ zs. get_or zs i 0 < n) (sym e) (by (cases_lt i (length xs)) (cases_lt (length xs) i))
  where
    by : (i < length xs) ⊎ (length xs ≤ i) → (length xs < i) ⊎ (i ≤ length xs) → get_or (xs ++ x ∷ []) i 0 < n
    by (inl a) b = subst (λ v. v < n) (sym (get_or_append_left xs (x ∷ []) 0 i a)) (h i)
    by (inr a) (inl b) = subst (λ v. v < n) (sym (get_or_past (xs ++ x ∷ []) i 0 (omega (arith, length_push xs x)))) (omega (arith, l))
    by (inr a) (inr b) = let at : length xs ≡ i = omega arith in subst (λ v. v < n) (sym (get_or_push xs x 0 i at)) l

pub under-take : (n m : ℕ) (xs ys : List ℕ) → Under n xs → ys ≡ take m xs → Under n ys
under-take n m xs ys h e i = subst (λ zs. get_or zs i 0 < n) (sym e) (by (cases_lt i m))
  where
    by : (i < m) ⊎ (m ≤ i) → get_or (take m xs) i 0 < n
    by (inl a) = subst (λ v. v < n) (sym (get_or-take m xs i 0 a)) (h i)
    by (inr a) =
        let z : 0 < n = omega (arith, h 0) in
        subst (λ v. v < n) (sym (get_or_past (take m xs) i 0 (omega (arith, length-take m xs)))) z

pub under_more : (n m : ℕ) (xs : List ℕ) → Under n xs → n ≤ m → Under m xs
under_more n m xs h l i = omega (arith, h i, l)

-- what stands k below the top, or d
pub top_is : {X Y : Type 0} (f : X → Y) (xs : List X) (k : ℕ) (d : X) (e : Y) → f d ≡ e → f (get_or (reverse xs) k d) ≡ get_or (drop k (map f (reverse xs))) 0 e
top_is f xs k d e h =
    let z : k + 0 ≡ k = omega arith in
    sym (get_or-drop k (map f (reverse xs)) 0 e ∙ ap (λ i. get_or (map f (reverse xs)) i e) z ∙ ap (get_or (map f (reverse xs)) k) (sym h) ∙ get_or-map-default f (reverse xs) k d)

-- the last, or d
pub last_is : {X : Type 0} (xs : List X) (o : Option X) (d : X) → o ≡ slice_get xs (length xs - 1) → unwrap_or o d ≡ get_or (reverse xs) 0 d
last_is xs o d e = ap (λ x. unwrap_or x d) e ∙ unwrap_or-slice_get xs (length xs - 1) d ∙ elim (cases_lt 0 (length xs)) [
  | inl l ↦ let z : length xs - 1 - 0 ≡ length xs - 1 = omega arith in sym (get_or-reverse xs 0 d l ∙ ap (λ i. get_or xs i d) z)
  | inr g ↦ get_or_past xs (length xs - 1) d (omega (arith, g)) ∙ sym (get_or_past (reverse xs) 0 d (omega (arith, length-reverse xs, g)))
]

pub under_at : {X : Type 0} (f : X → ℕ) (n : ℕ) (xs : List X) (i : ℕ) (d : X) → Under n (map f xs) → i < length xs → f (get_or xs i d) < n
under_at f n xs i d h l = subst (λ v. v < n) (get_or-map f xs i d 0 l) (h i)

pub under_last : {X : Type 0} (f : X → ℕ) (n : ℕ) (xs : List X) (d : X) → Under n (map f xs) → f d < n → f (get_or (reverse xs) 0 d) < n
under_last f n xs d h l = elim (cases_lt 0 (length xs)) [
  | inl m ↦ let i : length xs - 1 - 0 < length xs = omega arith in subst (λ x. f x < n) (sym (get_or-reverse xs 0 d m)) (under_at f n xs (length xs - 1 - 0) d h i)
  | inr g ↦ subst (λ x. f x < n) (sym (get_or_past (reverse xs) 0 d (omega (arith, length-reverse xs, g)))) l
]

pub under_top : (n : ℕ) (xs : List ℕ) (k d : ℕ) → Under n xs → d < n → get_or (reverse xs) k d < n
under_top n xs k d h l = elim (cases_lt k (length xs)) [
  | inl m ↦ let i : length xs - 1 - k < length xs = omega arith in subst (λ v. v < n) (sym (get_or-reverse xs k d m)) (subst (λ v. v < n) (get_or_default xs (length xs - 1 - k) 0 d i) (h (length xs - 1 - k)))
  | inr g ↦ subst (λ v. v < n) (sym (get_or_past (reverse xs) k d (omega (arith, length-reverse xs, g)))) l
]

pub length-held : {X Y : Type 0} (f : X → Y) (xs : List X) → length (map f (reverse xs)) ≡ length xs
length-held f xs = length-map (reverse xs) f ∙ length-reverse xs

pub under_push_map : {X : Type 0} (f : X → ℕ) (n : ℕ) (xs ys : List X) (x : X) → Under n (map f xs) → f x < n → ys ≡ xs ++ x ∷ [] → Under n (map f ys)
under_push_map f n xs ys x h l e = under_push n (map f xs) (map f ys) (f x) h l (ap (map f) e ∙ map_push f xs x)

pub under-take-map : {X : Type 0} (f : X → ℕ) (n m : ℕ) (xs ys : List X) → Under n (map f xs) → ys ≡ take m xs → Under n (map f ys)
under-take-map f n m xs ys h e = under-take n m (map f xs) (map f ys) h (ap (map f) e ∙ sym (take-map f m xs))
