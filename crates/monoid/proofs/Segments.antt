-- Segments side by side, one after the other. Assumes nothing.
use Rattle.std.proofs.Common.{◌≡◌, ℕ, suc, ◌+◌, ◌-◌, ◌<◌, ◌≤◌, Bool, true, false, List, [], ◌∷◌, ◌++◌, map, length, get_or, take, drop, sum, sym, refl, ap, ◌∙◌, ap₂, append_assoc, arith, length-append, length-drop}
use Rattle.std.proofs.lemmas.List.{drop_more, drop-drop, length-take-le, take_at, drop_at}
use borrow.Rule.Slice.PartMut.{put_mid}
use Rattle.std.proofs.lemmas.Slice.{take-put_mid}
use Rattle.std.proofs.lemmas.List.Sums.{sum_by-cons, sum_by-drop_more}
use Rattle.monoid.specs.Laws.{Laws, product}
use Rattle.monoid.specs.Lifted.{lifted}
use Rattle.monoid.specs.Segments.{marked, places, cut, concat}
use Rattle.monoid.proofs.Lifts.{length_marked, product_inside}

module _ {M : Type 0} (v : List M) (d : List ℕ) where
  -- the segments before j end at the place at; v has just what those from j on need
  pub record Reached (j at : ℕ) : Type 0 where
    pub passed : List (Bool × M)
    pub long : length passed ≡ at
    pub is : passed ++ places (cut (drop at v) (drop j d)) ≡ places (cut v d)
    pub left : at + sum (drop j d) ≡ length v

  pub reached_none : sum d ≡ length v → Reached 0 0
  reached_none full = record { passed = []; long = refl; is = refl; left = omega arith }

  module _ (j at : ℕ) (so_far : Reached j at) (h : j < length d) where
    -- segment j
    abbrev pub segment : List M
    segment = take (get_or d j 0) (drop at v)

    pub fits : at + get_or d j 0 ≤ length v
    fits = omega (arith, so_far.left, sum_by-drop_more (λ x. x) d j 0 h)

    pub segment_long : length segment ≡ get_or d j 0
    segment_long = length-take-le _ (drop at v) (rw length-drop (omega (arith, fits)))

    -- the part of an output that is for it
    pub part_long : {X : Type 0} (out : List X) → length out ≡ length v → length (take (at + get_or d j 0 - at) (drop at out)) ≡ get_or d j 0
    part_long out room = length-take-le _ (drop at out) (rw length-drop (omega (arith, fits))) ∙ omega arith

    -- what is made of the segments from j on, part by part
    next_part : {X : Type 0} (F : List (List M) → List X) (f : List M → List X) → ((xs : List M) (xss : List (List M)) → F (xs ∷ xss) ≡ f xs ++ F xss) → (w : List X)
        → w ++ F (cut (drop at v) (drop j d)) ≡ (w ++ f segment) ++ F (cut (drop (at + get_or d j 0) v) (drop (j + 1) d))
    next_part F f opens w =
        ap (λ e. w ++ F (cut (drop at v) e)) (drop_more d j 0 h) ∙ ap (λ ys. w ++ ys) (opens segment _)
        ∙ sym (append_assoc w (f segment) _) ∙ ap (λ u. (w ++ f segment) ++ F (cut u (drop (j + 1) d))) (drop-drop (get_or d j 0) at v)

    -- with the places of segment j
    places_reached : places (cut v d) ≡ so_far.passed ++ (marked segment ++ places (cut (drop (at + get_or d j 0) v) (drop (j + 1) d)))
    places_reached = sym so_far.is ∙ next_part places marked (λ xs xss. refl) so_far.passed ∙ append_assoc so_far.passed (marked segment) _

    -- one part more in the output: by itself, and where a slice of the output was written
    module _ {X : Type 0} (F : List (List M) → List X) (f : List M → List X) (opens : (xs : List M) (xss : List (List M)) → F (xs ∷ xss) ≡ f xs ++ F xss) (all : List X) where
      pub part_more : (w w' : List X) → w' ≡ w ++ f segment → w ++ F (cut (drop at v) (drop j d)) ≡ all → w' ++ F (cut (drop (at + get_or d j 0) v) (drop (j + 1) d)) ≡ all
      part_more w w' more so = ap (λ u. u ++ F (cut (drop (at + get_or d j 0) v) (drop (j + 1) d))) more ∙ sym (next_part F f opens w) ∙ so

      pub part_put : (out ys : List X) → length out ≡ length v → length ys ≡ length (take (at + get_or d j 0 - at) (drop at out)) → ys ≡ f segment → take at out ++ F (cut (drop at v) (drop j d)) ≡ all
          → take (at + get_or d j 0) (put_mid at (at + get_or d j 0 - at) out ys) ++ F (cut (drop (at + get_or d j 0) v) (drop (j + 1) d)) ≡ all
      part_put out ys room long is =
          part_more (take at out) _ (take-put_mid at _ out ys (at + get_or d j 0) (ap (λ n. at + n) (sym (long ∙ part_long out room))) (omega (arith, fits)) ∙ ap (λ zs. take at out ++ zs) is)

    pub reached_more : Reached (j + 1) (at + get_or d j 0)
    reached_more = record {
      passed = so_far.passed ++ marked segment;
      long = length-append so_far.passed (marked segment) ∙ ap₂ ◌+◌ so_far.long (length_marked segment ∙ segment_long);
      is = sym (next_part places marked (λ xs xss. refl) so_far.passed) ∙ so_far.is;
      left = omega (arith, so_far.left, sum_by-drop_more (λ x. x) d j 0 h);
    }

    -- the lift's product of the places before the one that is k past the head of segment j; where k is its length, up to its end
    pub product_reached : {unit : M} {op : M → M → M} → Laws unit op → (k : ℕ) → 0 < k → k ≤ get_or d j 0
        → product (false, unit) (lifted op) (take (at + k) (places (cut v d))) ≡ (true, product unit op (take k segment))
    product_reached {unit} {op} laws k some within =
        ap₂ (λ (i : ℕ) (ps : List (Bool × M)). product (false, unit) (lifted op) (take (i + k) ps)) (sym so_far.long)
        places_reached
        ∙ product_inside laws so_far.passed _ segment k some (omega (arith, segment_long))

module _ {M : Type 0} where
  pub length_cut : (v : List M) (d : List ℕ) → length (cut v d) ≡ length d
  length_cut v [] = refl
  length_cut v (n ∷ d) = ap suc (length_cut (drop n v) d)

  -- lists side by side, cut by their lengths, are the lists again
  pub cut-concat : (xss : List (List M)) → cut (concat xss) (map length xss) ≡ xss
  cut-concat [] = refl
  cut-concat (xs ∷ xss) =
      ap₂ (λ (a : List M) (b : List (List M)). a ∷ b) (take_at xs (concat xss) (length xs) refl) (ap (λ v. cut v (map length xss)) (drop_at xs (concat xss) (length xs) refl) ∙ cut-concat xss)

  pub sum_lengths : (xss : List (List M)) → sum (map length xss) ≡ length (concat xss)
  sum_lengths [] = refl
  sum_lengths (xs ∷ xss) = sum_by-cons (λ x. x) (length xs) (map length xss) ∙ ap (λ n. length xs + n) (sum_lengths xss) ∙ sym (length-append xs (concat xss))
