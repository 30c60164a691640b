-- What cells hold, and that more cells hold it still.
use Rattle.std.proofs.Common.{◌≡◌, ℕ, zero, suc, ◌+◌, ◌<◌, ◌≤◌, Bool, true, false, cond, List, [], ◌∷◌, ◌++◌, map, length, take, drop, sym, refl, ap, ◌∙◌, subst, add-zero, zero-add, add-one, arith}
use Rattle.std.proofs.lemmas.Grind.{common_steps}
use mathlib.Core.Option.{none, some}
use Rattle.std.proofs.lemmas.List.{take-take}
use Rattle.monoid.specs.declared.int.Int.{Int}
use Rattle.types.specs.Types.{Ty, int, bool, pair, list}
use Rattle.lang.specs.Values.{Val, sum_by, size}
use Rattle.lang.specs.Expr.{Var, here, there, Mask}
use Rattle.lang.specs.Layout.{count}
use Rattle.judging.specs.Notes.{index_of}
use Rattle.rules.specs.Lists.{nth}
use Rattle.rules.specs.Environment.{Env, look, sizes_in}
use Rattle.plan.specs.Boxes.{boxed, free_list}
use Rattle.running.specs.Cells.{place, word, size_less, size_at, long_at, elements_at, sizes_of, pair_block, list_block}
use Rattle.running.specs.Words.{limit, Row, Each, Holds, Word, Kept, bare, with}
use Rattle.running.proofs.Counts.{place-count, place_of}

-- the second cells have all that the first have
pub record Sub (h k : List Int) : Type 0 where
  pub kept : (p : ℕ) (w : Int) → nth h p ≡ some w → nth k p ≡ some w

pub sub_refl : (h : List Int) → Sub h h
sub_refl h = record { kept = λ p w e. e }

pub sub_trans : {h k l : List Int} → Sub h k → Sub k l → Sub h l
sub_trans f g = record { kept = λ p w e. g.kept p w (f.kept p w e) }

nth-append : (h k : List Int) (p : ℕ) (w : Int) → nth h p ≡ some w → nth (h ++ k) p ≡ some w
nth-append [] k p w e = absurd cc
nth-append (x ∷ h) k zero w e = e
nth-append (x ∷ h) k (suc p) w e = nth-append h k p w e

pub sub_append : (h k : List Int) → Sub h (h ++ k)
sub_append h k = record { kept = nth-append h k }

pub word-nth : (h : List Int) (p : ℕ) (w : Int) → nth h p ≡ some w → word h p ≡ w
word-nth [] p w e = absurd cc
word-nth (x ∷ h) zero w e = cc
word-nth (x ∷ h) (suc p) w e = word-nth h p w e

pub row_sub : (h k : List Int) → Sub h k → (p : ℕ) (ws : List Int) → Row h p ws → Row k p ws
row_sub h k s p [] r = tt
row_sub h k s p (w ∷ ws) r = (s.kept p w r.0, row_sub h k s (suc p) ws r.1)

row_skip : (x : Int) (h : List Int) (p : ℕ) (ws : List Int) → Row h p ws → Row (x ∷ h) (suc p) ws
row_skip x h p [] r = tt
row_skip x h p (w ∷ ws) r = (r.0, row_skip x h (suc p) ws r.1)

row_whole : (ws : List Int) → Row ws 0 ws
row_whole [] = tt
row_whole (w ∷ ws) = (refl, row_skip w ws 0 ws (row_whole ws))

pub row_new : (h ws : List Int) → Row (h ++ ws) (length h) ws
row_new [] ws = row_whole ws
row_new (x ∷ h) ws = row_skip x (h ++ ws) (length h) ws (row_new h ws)

-- two rows, one after the other
pub row_front : (h : List Int) (p : ℕ) (us vs : List Int) → Row h p (us ++ vs) → Row h p us
row_front h p [] vs r = tt
row_front h p (u ∷ us) vs r = (r.0, row_front h (suc p) us vs r.1)

pub row_back : (h : List Int) (p : ℕ) (us vs : List Int) → Row h p (us ++ vs) → Row h (p + length us) vs
row_back h p [] vs r = subst (λ q. Row h q vs) (sym (add-zero p)) r
row_back h p (u ∷ us) vs r = let e : suc p + length us ≡ p + suc (length us) = omega arith in
    subst (λ q. Row h q vs) e (row_back h (suc p) us vs r.1)

row_down : (x : Int) (h : List Int) (p : ℕ) (ws : List Int) → Row (x ∷ h) (suc p) ws → Row h p ws
row_down x h p [] r = tt
row_down x h p (w ∷ ws) r = (r.0, row_down x h (suc p) ws r.1)

pub row_take : (h : List Int) (p : ℕ) (ws : List Int) → Row h p ws → take (length ws) (drop p h) ≡ ws
row_take h p [] r = refl
row_take [] p (w ∷ ws) r = let e = r.0 in absurd cc
row_take (x ∷ h) zero (w ∷ ws) r =
    let e = r.0 in
    let f : x ≡ w = cc in
    ap (λ z. z ∷ take (length ws) h) f ∙ ap (λ q. w ∷ q) (row_take h 0 ws (row_down x h 0 ws r.1))
row_take (x ∷ h) (suc p) (w ∷ ws) r = row_take h p (w ∷ ws) (row_down x h p (w ∷ ws) r)

-- ---- one for each

pub each_turn : {W X : Type 0} (R S : W → X → Type 0) → ((w : W) (x : X) → R w x → S w x) → (ws : List W) (xs : List X) → Each R ws xs → Each S ws xs
each_turn R S f [] [] r = tt
each_turn R S f [] (x ∷ xs) r = r
each_turn R S f (w ∷ ws) [] r = r
each_turn R S f (w ∷ ws) (x ∷ xs) r = (f w x r.0, each_turn R S f ws xs r.1)

pub each_length : {W X : Type 0} (R : W → X → Type 0) (ws : List W) (xs : List X) → Each R ws xs → length ws ≡ length xs
each_length R [] [] r = refl
each_length R [] (x ∷ xs) r = absurd r
each_length R (w ∷ ws) [] r = absurd r
each_length R (w ∷ ws) (x ∷ xs) r = ap suc (each_length R ws xs r.1)

-- where each gives the same
pub each_same : {W X Y : Type 0} (R : W → X → Type 0) (f : W → Y) (g : X → Y) → ((w : W) (x : X) → R w x → f w ≡ g x) → (ws : List W) (xs : List X) →
    Each R ws xs → map f ws ≡ map g xs
each_same R f g k [] [] r = refl
each_same R f g k [] (x ∷ xs) r = absurd r
each_same R f g k (w ∷ ws) [] r = absurd r
each_same R f g k (w ∷ ws) (x ∷ xs) r = ap (λ z. z ∷ map f ws) (k w x r.0) ∙ ap (λ q. g x ∷ q) (each_same R f g k ws xs r.1)

pub each_sum : {W X : Type 0} (R : W → X → Type 0) (f : W → ℕ) (g : X → ℕ) → ((w : W) (x : X) → R w x → f w ≡ g x) → (ws : List W) (xs : List X) →
    Each R ws xs → sum_by f ws ≡ sum_by g xs
each_sum R f g k [] [] r = refl
each_sum R f g k [] (x ∷ xs) r = absurd r
each_sum R f g k (w ∷ ws) [] r = absurd r
each_sum R f g k (w ∷ ws) (x ∷ xs) r = ap (λ n. n + sum_by f ws) (k w x r.0) ∙ ap (λ n. g x + n) (each_sum R f g k ws xs r.1)

-- ---- values

pub holds_sub : (h k : List Int) → Sub h k → (t : Ty) (w : Int) (v : Val t) → Holds h t w v → Holds k t w v
holds_sub h k s int w v r = r
holds_sub h k s bool w v r = r
holds_sub h k s (pair a b) w v r =
    record {
      p = r.p;
      k = r.k;
      u = r.u;
      v = r.v;
      is = r.is;
      there = r.there;
      few = r.few;
      sized = r.sized;
      row = row_sub h k s r.p (count r.k ∷ r.u ∷ r.v ∷ []) r.row;
      left = holds_sub h k s a r.u v.0 r.left;
      right = holds_sub h k s b r.v v.1 r.right;
    }
holds_sub h k s (list a) w v r =
    record {
      p = r.p;
      ws = r.ws;
      is = r.is;
      there = r.there;
      few = r.few;
      row = row_sub h k s r.p (count (sum_by (size a) v) ∷ count (length v) ∷ r.ws) r.row;
      each = each_turn (Holds h a) (Holds k a) (holds_sub h k s a) r.ws v r.each;
    }

pub word_sub : {h k : List Int} {t : Ty} {w : Int} {v : Val t} → Sub h k → Word h t w v → Word k t w v
word_sub {h = h} {k = k} {t = t} {w = w} {v = v} s r = record { holds = holds_sub h k s t w v r.holds }

pub kept_sub : {h k : List Int} {Γ : List Ty} {e : List Int} {ρ : Env Γ} → Sub h k → Kept h Γ e ρ → Kept k Γ e ρ
kept_sub s bare = bare
kept_sub s (with t w v r rs) = with t w v (word_sub s r) (kept_sub s rs)

pub kept_look : {h : List Int} {Γ : List Ty} {e : List Int} {ρ : Env Γ} {t : Ty} → Kept h Γ e ρ → (x : Var Γ t) →
    Word h t (word e (index_of x)) (look x ρ)
kept_look bare x = elim x [ ]
kept_look (with t w v r rs) here = r
kept_look (with t w v r rs) (there x) = kept_look rs x

-- a new list, and a new pair
pub new_list : (a : Ty) (h : List Int) (p n : ℕ) (ws : List Int) (xs : List (Val a)) → p < limit → n < limit → n ≡ sum_by (size a) xs →
    Row h p (list_block n ws) → Each (Holds h a) ws xs → Holds h (list a) (count p) xs
new_list a h p n ws xs lp ln en r ea =
    record {
      p = p;
      ws = ws;
      is = refl;
      there = lp;
      few = subst (λ k. k < limit) en ln;
      row = subst (λ k. Row h p (count (sum_by (size a) xs) ∷ count k ∷ ws)) (each_length (Holds h a) ws xs ea)
          (subst (λ k. Row h p (count k ∷ count (length ws) ∷ ws)) en r);
      each = ea;
    }

pub new_pair : (a b : Ty) (h : List Int) (p k : ℕ) (u v : Int) (x : Val a) (y : Val b) → p < limit → k < limit → size a x + size b y ≡ suc k →
    Row h p (pair_block k u v) → Holds h a u x → Holds h b v y → Holds h (pair a b) (count p) (x, y)
new_pair a b h p k u v x y lp lk ek r hx hy = record {
  p = p;
  k = k;
  u = u;
  v = v;
  is = refl;
  there = lp;
  few = lk;
  sized = ek;
  row = r;
  left = hx;
  right = hy;
}

-- ---- sizes

pub size_some : (t : Ty) (v : Val t) → 1 ≤ size t v
size_some int v = omega arith
size_some bool v = omega arith
size_some (pair a b) v = omega (arith, size_some a v.0)
size_some (list a) v = omega arith

pub sum_long : {A : Type 0} (f : A → ℕ) → ((x : A) → 1 ≤ f x) → (xs : List A) → length xs ≤ sum_by f xs
sum_long f k [] = omega arith
sum_long f k (x ∷ xs) = omega (arith, k x, sum_long f k xs)

less_is : (h : List Int) (w : Int) (p n : ℕ) → w ≡ count p → p < limit → nth h p ≡ some (count n) → n < limit → size_less h w ≡ n
less_is h w p n e lp r ln = ap (λ q. place (word h q)) (place_of w p e lp) ∙ ap place (word-nth h p (count n) r) ∙ place-count n ln

pub list_less : (a : Ty) (h : List Int) (w : Int) (xs : List (Val a)) → Holds h (list a) w xs → size_less h w ≡ sum_by (size a) xs
list_less a h w xs r = less_is h w r.p _ r.is r.there r.row.0 r.few

pub size-at : (h : List Int) (t : Ty) (w : Int) (v : Val t) → Holds h t w v → size_at h (boxed t) w ≡ size t v
size-at h int w v r = refl
size-at h bool w v r = refl
size-at h (pair a b) w v r = omega (arith, less_is h w r.p r.k r.is r.there r.row.0 r.few, r.sized)
size-at h (list a) w v r = ap (λ n. 1 + n) (list_less a h w v r)

pub sizes_each : (h : List Int) (t : Ty) (ws : List Int) (vs : List (Val t)) → Each (Holds h t) ws vs →
    sum_by (size_at h (boxed t)) ws ≡ sum_by (size t) vs
sizes_each h t ws vs r = each_sum (Holds h t) (size_at h (boxed t)) (size t) (size-at h t) ws vs r

sizes_from : {h : List Int} {Γ : List Ty} {e : List Int} {ρ : Env Γ} (g : List Int) (n : ℕ) → Kept h Γ e ρ → ((i : ℕ) → word g (n + i) ≡ word e i) →
    (m : Mask Γ) → sizes_of h g (free_list Γ m n) ≡ sizes_in Γ m ρ
sizes_from g n bare f m = refl
sizes_from {h = h} g n (with {Γ = Γ} {e = e} {ρ = ρ} t w v r rs) f m =
    let rest : sizes_of h g (free_list Γ m.1 (suc n)) ≡ sizes_in Γ m.1 ρ =
    sizes_from g (suc n) rs (λ i. ap (word g) (omega arith) ∙ f (suc i)) m.1 in
    by m.0 rest
  where
    by : (b : Bool) → sizes_of h g (free_list Γ m.1 (suc n)) ≡ sizes_in Γ m.1 ρ →
        sizes_of h g (cond b (record { index = n; boxed = boxed t } ∷ free_list Γ m.1 (suc n)) (free_list Γ m.1 (suc n))) ≡ cond b
        (size t v + sizes_in Γ m.1 ρ) (sizes_in Γ m.1 ρ)
    by true q =
        ap (λ z. size_at h (boxed t) z + sizes_of h g (free_list Γ m.1 (suc n))) (ap (word g) (sym (add-zero n)) ∙ f 0) ∙
        ap (λ k. k + sizes_of h g (free_list Γ m.1 (suc n))) (size-at h t w v r.holds) ∙ ap (λ k. size t v + k) q
    by false q = q

pub sizes_free : {h : List Int} {Γ : List Ty} {e : List Int} {ρ : Env Γ} → Kept h Γ e ρ → (m : Mask Γ) → sizes_of h e (free_list Γ m 0) ≡ sizes_in Γ m ρ
sizes_free {e = e} k m = sizes_from e 0 k (λ i. ap (word e) (zero-add i)) m

-- ---- elements

-- a list is not longer than its size allows
pub list_few : (a : Ty) (xs : List (Val a)) → length xs ≤ sum_by (size a) xs
list_few a xs = sum_long (size a) (size_some a) xs

pub list_length : (a : Ty) (h : List Int) (w : Int) (xs : List (Val a)) → Holds h (list a) w xs → word h (place w + 1) ≡ count (length xs)
list_length a h w xs r =
    ap (λ q. word h (q + 1)) (place_of w r.p r.is r.there) ∙ ap (word h) (add-one r.p) ∙ word-nth h (suc r.p) _ r.row.1.0

pub list_long : (a : Ty) (h : List Int) (w : Int) (xs : List (Val a)) → Holds h (list a) w xs → long_at h w ≡ length xs
list_long a h w xs r =
    let lx : length xs < limit = omega (arith, list_few a xs, r.few) in
    ap place (list_length a h w xs r) ∙ place-count (length xs) lx

pub list_elements : (a : Ty) (h : List Int) (w : Int) (xs : List (Val a)) (r : Holds h (list a) w xs) → elements_at h w ≡ r.ws
list_elements a h w xs r =
    let long : length r.ws ≡ length xs = each_length (Holds h a) r.ws xs r.each in
    let two : r.p + 2 ≡ suc (suc r.p) = omega arith in
    let few : length xs ≤ sum_by (size a) xs = list_few a xs in
    ap (λ n. take n (take (size_less h w) (drop (place w + 2) h))) (list_long a h w xs r) ∙
    ap (λ n. take (length xs) (take n (drop (place w + 2) h))) (list_less a h w xs r) ∙
    take-take (length xs) (sum_by (size a) xs) (drop (place w + 2) h) few ∙
    ap (λ n. take (length xs) (drop (n + 2) h)) (place_of w r.p r.is r.there) ∙
    ap (λ n. take n (drop (r.p + 2) h)) (sym long) ∙ ap (λ n. take (length r.ws) (drop n h)) two ∙
    row_take h (suc (suc r.p)) r.ws r.row.1.1

pub list_each : (a : Ty) (h : List Int) (w : Int) (xs : List (Val a)) → Holds h (list a) w xs → Each (Holds h a) (elements_at h w) xs
list_each a h w xs r = subst (λ ws. Each (Holds h a) ws xs) (sym (list_elements a h w xs r)) r.each

-- the element at an index has its word at that index
pub each_nth : {X : Type 0} (R : Int → X → Type 0) (h : List Int) (p : ℕ) (ws : List Int) (xs : List X) (i : ℕ) (x : X) → Row h p ws → Each R ws xs →
    nth xs i ≡ some x → R (word h (p + i)) x
each_nth R h p [] [] i x r q e = absurd cc
each_nth R h p [] (y ∷ xs) i x r q e = absurd q
each_nth R h p (w ∷ ws) [] i x r q e = absurd q
each_nth R h p (w ∷ ws) (y ∷ xs) zero x r q e = grind (arith, common_steps, add-zero, word-nth)
each_nth R h p (w ∷ ws) (y ∷ xs) (suc i) x r q e =
    let f : suc p + i ≡ p + suc i = omega arith in subst (λ n. R (word h n) x) f (each_nth R h (suc p) ws xs i x r.1 q.1 e)

pub nth_in : {X : Type 0} (xs : List X) (i : ℕ) (x : X) → nth xs i ≡ some x → i < length xs
nth_in [] i x e = absurd cc
nth_in (y ∷ xs) zero x e = omega arith
nth_in (y ∷ xs) (suc i) x e = omega (arith, nth_in xs i x e)

pub nth_out : {X : Type 0} (xs : List X) (i : ℕ) → nth xs i ≡ none → length xs ≤ i
nth_out [] i e = omega arith
nth_out (y ∷ xs) zero e = absurd cc
nth_out (y ∷ xs) (suc i) e = omega (arith, nth_out xs i e)
