-- Tasks that leave a list in one block: brackets, the empty list, ranges, the elements of a list's elements.
use Rattle.std.proofs.Common.{◌≡◌, ℕ, zero, suc, ◌+◌, true, List, [], ◌∷◌, ◌++◌, reverse, length, take, drop, pos, sym, refl, ap, ◌∙◌, subst, append_assoc, arith}
use mathlib.Core.Option.{some}
use Rattle.std.proofs.lemmas.List.{length-reverse, length-map, reverse-reverse, reverse-append, take_at, drop_at, map-id}
use Rattle.monoid.specs.declared.int.Int.{Int}
use Rattle.monoid.specs.Ints.{int_of}
use Rattle.monoid.specs.Segments.{concat}
use Rattle.types.specs.Types.{Ty, int, list}
use Rattle.lang.specs.Values.{Val, sum_by, size}
use Rattle.lang.specs.Expr.{copies}
use Rattle.lang.specs.Layout.{count, flat_map}
use Rattle.rules.specs.Lists.{below}
use Rattle.rules.specs.Arithmetic.{many}
use Rattle.rules.specs.Environment.{Env, sizes}
use Rattle.rules.specs.Primitives.{elements, ints_below}
use Rattle.rules.specs.Charges.{prim_charge}
use Rattle.plan.specs.Boxes.{boxed}
use Rattle.running.specs.Cells.{size_less, size_at, elements_at, list_block}
use Rattle.running.specs.Machine.{st, pay, do_bracket, do_hollow, do_range, do_flat}
use Rattle.running.specs.Words.{Each, Holds}
use Rattle.running.proofs.Holding.{each_sum, size-at, sizes_each, list_less, list_each}
use Rattle.running.proofs.Sums.{sum-concat, sum_const, each_append, each_made}
use Rattle.running.proofs.Doing.{Pushed, p_nil, p_more, Does}
use Rattle.running.proofs.Written.{one_block}

-- operands of one type, the last uppermost
pub record Copied (h : List Int) (a : Ty) (k : ℕ) (o o' : List Int) (xs : List (Val a)) : Type 0 where
  pub ws : List Int
  pub is : o' ≡ reverse ws ++ o
  pub each : Each (Holds h a) ws xs
  pub long : length ws ≡ k

copied : (h : List Int) (a : Ty) (k : ℕ) (o o' : List Int) (vs : Env (copies k a)) → Pushed h (copies k a) o vs o' →
    Copied h a k o o' (elements k a vs)
copied h a zero o o' vs p_nil = record { ws = []; is = refl; each = tt; long = refl }
copied h a (suc k) o o' vs (p_more {vs = us} _ w v r rs) =
    let q : Copied h a k (w ∷ o) o' (elements k a us) = copied h a k (w ∷ o) o' us rs in
    record {
      ws = w ∷ q.ws;
      is = q.is ∙ sym (ap (λ z. z ++ o) (reverse-append (w ∷ []) q.ws) ∙ append_assoc (reverse q.ws) (w ∷ []) o);
      each = (r.holds, q.each);
      long = ap suc q.long;
    }

sizes-copies : (k : ℕ) (a : Ty) (vs : Env (copies k a)) → sizes (copies k a) vs ≡ sum_by (size a) (elements k a vs)
sizes-copies zero a vs = refl
sizes-copies (suc k) a vs = ap (λ n. size a vs.0 + n) (sizes-copies k a vs.1)

pub length-below : (n : ℕ) → length (below n) ≡ n
length-below zero = refl
length-below (suc n) = ap suc (length-map (below n) suc ∙ length-below n)

pub length-ints : (n : ℕ) → length (ints_below n) ≡ n
length-ints n = length-map (below n) (λ i. int_of (pos i)) ∙ length-below n

flat_each : (h : List Int) (a : Ty) (ws : List Int) (xss : List (List (Val a))) → Each (Holds h (list a)) ws xss →
    Each (Holds h a) (flat_map (elements_at h) ws) (concat xss)
flat_each h a [] [] r = tt
flat_each h a [] (xs ∷ xss) r = absurd r
flat_each h a (w ∷ ws) [] r = absurd r
flat_each h a (w ∷ ws) (xs ∷ xss) r =
    each_append (Holds h a) (elements_at h w) xs (flat_map (elements_at h) ws) (concat xss) (list_each a h w xs r.0) (flat_each h a ws xss r.1)

module _ (B p i c : ℕ) (h o e l : List Int) where
  pub brackets : (k : ℕ) (a : Ty) (o' : List Int) (vs : Env (copies k a)) → Pushed h (copies k a) o vs o' →
      Does B (list a) 0 p i c h o e l (λ z. prim_charge (copies k a) (list a) vs z) (do_bracket B k (boxed a) p (st i c h o' e l))
      (some (elements k a vs))
  brackets k a o' vs r =
      let q : Copied h a k o o' (elements k a vs) = copied h a k o o' vs r in
      let ws : List Int = q.ws in
      let xs : List (Val a) = elements k a vs in
      let m : ℕ = sum_by (size a) xs in
      let long : length (reverse ws) ≡ k = length-reverse ws ∙ q.long in
      let top : reverse (take k o') ≡ ws = ap (λ z. reverse (take k z)) q.is ∙ ap reverse (take_at (reverse ws) o k long) ∙ reverse-reverse ws in
      let rest : drop k o' ≡ o = ap (drop k) q.is ∙ drop_at (reverse ws) o k long in
      let sum : sum_by (size_at h (boxed a)) ws ≡ m = sizes_each h a ws xs q.each in
      let all : sizes (copies k a) vs ≡ m = sizes-copies k a vs in
      one_block B a 0 p i c h o e l _ _ xs m ws refl (omega arith) q.each
      (simp (top, sum, rest) (grind arith))

  pub hollows : (a : Ty) → Does B (list a) 0 p i c h o e l (λ z. prim_charge [] (list a) tt z) (do_hollow B p (st i c h o e l)) (some [])
  hollows a = one_block B a 0 p i c h o e l _ _ [] 0 [] refl (omega arith) tt refl

  pub ranges : (u k : Int) → u ≡ k → Does B (list int) 0 p i c h o e l (λ z. prim_charge (int ∷ []) (list int) (k, tt) z)
      (do_range B p (st i c h (u ∷ o) e l)) (some (ints_below (many k.value)))
  ranges u k eu =
      let n : ℕ = many k.value in
      let xs : List Int = ints_below n in
      let sum : sum_by (size int) xs ≡ n = sum_const (size int) 1 (λ x. refl) xs ∙ omega (arith, length-ints n) in
      one_block B int 0 p i c h o e l _ _ xs n xs (sym sum) (omega arith)
      (subst (λ ws. Each (Holds h int) ws xs) (map-id xs) (each_made (Holds h int) (λ x. x) (λ x. refl) xs))
      (rw eu (grind arith))

  pub flats : (a : Ty) (u : Int) (xss : List (List (Val a))) → Holds h (list (list a)) u xss →
      Does B (list a) 0 p i c h o e l (λ z. prim_charge (list (list a) ∷ []) (list a) (xss, tt) z) (do_flat B p (st i c h (u ∷ o) e l))
      (some (concat xss))
  flats a u xss r =
      let ws : List Int = elements_at h u in
      let ea : Each (Holds h (list a)) ws xss = list_each (list a) h u xss r in
      let xs : List (Val a) = concat xss in
      let eu : size_at h true u ≡ size (list (list a)) xss = size-at h (list (list a)) u xss r in
      let sum : sum_by (size_less h) ws ≡ sum_by (size a) xs = each_sum (Holds h (list a)) (size_less h) (sum_by (size a)) (list_less a h) ws xss ea ∙
      sum-concat (size a) xss in
      one_block B a 0 p i c h o e l _ _ xs (sum_by (size_less h) ws) (flat_map (elements_at h) ws) sum (omega arith) (flat_each h a ws xss ea)
      (grind arith)
