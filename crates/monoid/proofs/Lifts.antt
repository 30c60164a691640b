-- What the lift of a monoid comes to over segments. Assumes nothing.
use Rattle.std.proofs.Common.{◌≡◌, ℕ, zero, suc, ◌+◌, ◌<◌, ◌≤◌, Bool, true, false, eqb, List, [], ◌∷◌, ◌++◌, map, length, get_or, take, sym, refl, ap, ◌∙◌, arith, rules, ne_eqb}
use lib.ListN.{length-map, get_or-map}
use Rattle.std.proofs.lemmas.List.{take-map, length-take-le}
use lib.Seq.{take-append-le, take-append-add}
use Rattle.monoid.specs.Laws.{Laws, product}
use Rattle.monoid.specs.Lifted.{lifted}
use Rattle.monoid.specs.Segments.{marked, plain}
use Rattle.monoid.proofs.Products.{product-append}

module _ {M : Type 0} where
  pub length_marked : (xs : List M) → length (marked xs) ≡ length xs
  length_marked [] = refl
  length_marked (x ∷ xs) = ap suc (length-map xs plain)

  pub get_or-marked : (xs : List M) (i : ℕ) (x : M) → i < length xs → x ≡ get_or xs i x → get_or (marked xs) i (eqb i 0, x) ≡ (eqb i 0, x)
  get_or-marked [] i x h e = absurd (omega arith)
  get_or-marked (y ∷ xs) zero x h e = ap (λ z. (true, z)) (sym e)
  get_or-marked (y ∷ xs) (suc i) x h e = rw (ne_eqb (suc i) 0 (λ z. omega arith)) (get_or-map plain xs i x ∙ ap plain (sym e))

  pub take-marked : (k : ℕ) (xs : List M) → take k (marked xs) ≡ marked (take k xs)
  take-marked zero xs = refl
  take-marked (suc k) [] = refl
  take-marked (suc k) (x ∷ xs) = ap (λ ys. (true, x) ∷ ys) (take-map plain k xs)

module _ {M : Type 0} {unit : M} {op : M → M → M} (laws : Laws unit op) where
  pub lift_laws : Laws (false, unit) (lifted op)
  lift_laws = search (rules, laws.left, laws.right, laws.assoc)

  -- no flag: the elements' own join
  product-plain : (xs : List M) → product (false, unit) (lifted op) (map plain xs) ≡ (false, product unit op xs)
  product-plain [] = refl
  product-plain (x ∷ xs) = ap (lifted op (false, x)) (product-plain xs)

  product-marked : (x : M) (xs : List M) → product (false, unit) (lifted op) (marked (x ∷ xs)) ≡ (true, product unit op (x ∷ xs))
  product-marked x xs = ap (lifted op (true, x)) (product-plain xs)

  -- whatever stands before a segment is left out
  product_after : (ps : List (Bool × M)) (xs : List M) → 0 < length xs → product (false, unit) (lifted op) (ps ++ marked xs) ≡ (true, product unit op xs)
  product_after ps [] h = absurd (omega arith)
  product_after ps (x ∷ xs) h =
      let t = product (false, unit) (lifted op) ps in
      product-append lift_laws ps (marked (x ∷ xs)) ∙ ap (lifted op t) (product-marked x xs) ∙ search rules

  -- the lift's join of all places before the one that is k past the head of the segment xs; at k = length xs, of the whole segment
  pub product_inside : (ps qs : List (Bool × M)) (xs : List M) (k : ℕ) → 0 < k → k ≤ length xs
      → product (false, unit) (lifted op) (take (length ps + k) (ps ++ (marked xs ++ qs))) ≡ (true, product unit op (take k xs))
  product_inside ps qs xs k h l =
      let within : k ≤ length (marked xs) = rw length_marked l in
      let front : take (length ps + k) (ps ++ (marked xs ++ qs)) ≡ ps ++ marked (take k xs) =
      take-append-add ps (marked xs ++ qs) k ∙ ap (λ ys. ps ++ ys) (take-append-le k (marked xs) qs within ∙ take-marked k xs) in
      ap (product (false, unit) (lifted op)) front ∙ product_after ps (take k xs) (omega (arith, length-take-le k xs l))
