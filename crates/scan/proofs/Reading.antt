-- What a scan of the lift comes to in a segment.
use Rattle.std.proofs.Common.{◌≡◌, ℕ, zero, suc, ◌+◌, ◌-◌, ◌<◌, ◌≤◌, Bool, true, false, cond, eqb, List, length, get_or, take, drop, sym, refl, ap, ◌∙◌, ⊎_elim, arith, eq-eqb, ne_eqb}
use Rattle.std.proofs.lemmas.List.{ext_get_or, get_or_default, get_or_past, take_all, get_or-take, get_or-drop}
use Rattle.std.proofs.lemmas.Bool.{cases_lt}
use Rattle.monoid.specs.Laws.{Laws, product}
use Rattle.monoid.specs.Segments.{places, cut, running}
use Rattle.monoid.proofs.Running.{length-running, get_or-running}
use Rattle.monoid.proofs.Segments.{Reached, segment, segment_long, part_long, fits, product_reached}
use Rattle.scan.specs.Places.{ScannedPlaces, product_of_places}

module _ {M : Type 0} {unit : M} {op : M → M → M} (laws : Laws unit op) (v : List M) (d : List ℕ) (j at : ℕ) (so_far : Reached v d j at) (h : j < length d)
    (ys : List (Bool × M)) (done : ScannedPlaces unit op (cut v d) ys) where
  abbrev n : ℕ
  n = get_or d j 0

  abbrev here : List M
  here = segment v d j at so_far h

  -- at the end of the segment
  past : (all : Bool × M) → all ≡ product_of_places unit op (cut v d) → 0 < n → get_or ys (at + n) all ≡ (true, product unit op here)
  past all all-is some =
      let inside = product_reached v d j at so_far h laws n some (omega arith) ∙ ap (λ xs. (true, product unit op xs)) (take_all n here (omega (arith, segment_long v d j at so_far h))) in
      ⊎_elim
      (λ (l : at + n < length (places (cut v d))). get_or_default ys (at + n) all (false, unit) (omega (arith, done.long)) ∙ done.each (at + n) l ∙ inside)
      (λ (l : length (places (cut v d)) ≤ at + n).
      get_or_past ys (at + n) all (omega (arith, done.long)) ∙ all-is ∙ ap (product _ _) (sym (take_all (at + n) (places (cut v d)) l)) ∙ inside)
      (cases_lt (at + n) (length (places (cut v d))))

  pub end_is : (all : Bool × M) → all ≡ product_of_places unit op (cut v d) → cond (eqb n 0) unit (get_or ys (at + n) all).1 ≡ product unit op here
  end_is all all-is = ⊎_elim
      (λ (some : 0 < n). rw (ne_eqb n 0 (λ e. omega arith)) (ap (λ p. p.1) (past all all-is some)))
      (λ (none : n ≤ 0).
      let z : n ≡ 0 = omega arith in
      rw (eq-eqb n 0 z) (ap (λ k. product unit op (take k (drop at v))) (sym z)))
      (cases_lt 0 n)

  -- before each of its elements
  pub inside_is : length ys ≡ length v → (zs : List M) → length zs ≡ n
      → ((k : ℕ) → k < length (take (at + n - at) (drop at ys)) → get_or zs k unit ≡ cond (eqb k 0) unit (get_or (take (at + n - at) (drop at ys)) k (false, unit)).1) → zs ≡ running op unit here
  inside_is room zs long each =
      ext_get_or unit zs (running op unit here) (long ∙ sym (length-running laws unit here ∙ segment_long v d j at so_far h))
      (λ k l. each k (omega (arith, part_long v d j at so_far h ys room)) ∙ place k (omega arith) ∙ sym (get_or-running laws here k (omega (arith, segment_long v d j at so_far h))))
    where
      place : (k : ℕ) → k < n → cond (eqb k 0) unit (get_or (take (at + n - at) (drop at ys)) k (false, unit)).1 ≡ product unit op (take k here)
      place zero l = refl
      place (suc k) l =
          rw (ne_eqb (suc k) 0 (λ z. omega arith))
          (ap (λ p. p.1)
          (get_or-take (at + n - at) (drop at ys) (suc k) (false, unit) (omega arith) ∙ get_or-drop at ys (suc k) (false, unit)
          ∙ done.each (at + suc k) (omega (arith, done.long, fits v d j at so_far h))
          ∙ product_reached v d j at so_far h laws (suc k) (omega arith) (omega arith)))
