-- Cells gathered from vectors, value by value.
use Rattle.std.proofs.Common.{◌≡◌, ℕ, suc, ◌-◌, ◌<◌, ◌≤◌, ◌⊎◌, inr, List, [], ◌∷◌, ◌++◌, map, length, take, drop, Some, None, Option, sym, refl, ap, ◌∙◌, subst, append-nil, append_assoc, arith, length-append, length-drop}
use denote.Ref.{Bor}
use borrow.Rule.Slice.PartMut.{put_mid}
use Rattle.std.proofs.lemmas.List.{take_at, drop_at, drop_all, length-map, map-append, take-map, drop-map, take_rest, nil_from_length}
use Rattle.monoid.specs.declared.int.Int.{Int}
use Rattle.monoid.specs.Segments.{concat}
use Rattle.types.specs.Types.{Ty, pair, list, parts}
use Rattle.types.specs.Entries.{counted}
use Rattle.lang.specs.Values.{Val, size, sum_by}
use Rattle.lang.specs.Layout.{cells, vectors, flat_map, count}
use Rattle.vectors.specs.declared.writer.Writer.{Writer}
use Rattle.vectors.specs.Vectors.{Countable}
use Rattle.vectors.specs.Writing.{room, Wrote, Puts, Goes}
use Rattle.vectors.specs.Walking.{IsLength}
use Rattle.vectors.specs.Gathering.{left, first, behind_first, Gathers}
use Rattle.vectors.proofs.Sums.{number, few}
use Rattle.vectors.proofs.Faithful.{length_is}
use Rattle.vectors.proofs.Writing.{wrote_none, goes_then}

-- what the code lends from a place on, and what that leaves
abbrev pub lent : ℕ → List (Bor (List Int)) → List (Bor (List Int))
lent n vs = take (length vs - n) (drop n vs)

abbrev pub returned : ℕ → List (Bor (List Int)) → List (Bor (List Int)) → List (Bor (List Int))
returned n vs rs = put_mid n (length vs - n) vs rs

left_lent : (n : ℕ) (vs : List (Bor (List Int))) → left (lent n vs) ≡ drop n (left vs)
left_lent n vs = ap left (take_rest vs n) ∙ sym (drop-map _ n vs)

left_returned : (n : ℕ) (vs rs : List (Bor (List Int))) → n ≤ length vs → left (returned n vs rs) ≡ take n (left vs) ++ left rs
left_returned n vs rs h =
    let none : drop (length vs - n) (drop n vs) ≡ [] = drop_all (length vs - n) (drop n vs) (omega (arith, length-drop n vs)) in
    simp (none, append-nil, map-append, take-map)

pub gathers_at : {t u : Ty} {us us' : List (List Int)} {w w' : Writer} {r : Option (Unit {0})} → t ≡ u → Gathers u us w r us' w' → Gathers t us w r us' w'
gathers_at {us = us} {us'} {w} {w'} {r} e g = subst (λ t. Gathers t us w r us' w') (sym e) g

-- ---- the next entry
module _ {us : List (List Int)} {x : Int} {p : List Int} {ps : List (List Int)} (e : us ≡ (x ∷ p) ∷ ps) where
  pub no_entry : None ≡ first us → ⊥
  no_entry none = cc

  pub entry-is : {y : Int} → Some y ≡ first us → y ≡ x
  entry-is some = cc

  pub one_gathers : {us₁ : List (List Int)} {w w₁ : Writer} {y : Int} {r : Option (Unit {0})} → Some y ≡ first us → us₁ ≡ behind_first us → Puts w y r w₁
      → 1 ≤ length (room w) → Goes tt (p ∷ ps) (x ∷ []) w r us₁ w₁
  one_gathers {us₁} {w} {w₁} {y} {r = Some u} some rest puts h =
      record { is = refl; leaves = rest ∙ ap behind_first e; wrote = subst (λ z. Wrote w (z ∷ []) w₁) (entry-is some) puts.1 }
  one_gathers {r = None} some rest puts h = absurd (omega (arith, ap length puts.0))

-- ---- a pair
pub pair_gathers : {a b : Ty} {us us₂ : List (List Int)} {w w₁ w₂ : Writer} {r r₂ : Option (Unit {0})} {n : ℕ} (vs₁ : List (Bor (List Int)))
    → n ≡ counted a → Gathers a us w r (left vs₁) w₁
    → (r ≡ None) ⊎ ((rs : List (Bor (List Int))) × (us₂ ≡ left (returned n vs₁ rs)) × (n ≤ length vs₁) × Gathers b (left (lent n vs₁)) w₁ r₂ (left rs) w₂)
    → Gathers (pair a b) us w r₂ us₂ w₂
pair_gathers {a} {b} {n = n} vs₁ e first second = record {
  goes = λ v vs others small fits is h.
      let va = vectors a (map (λ w. w.0) vs) in
      let vb = vectors b (v.1 ∷ map (λ w. w.1) vs) ++ others in
      let long : length va ≡ n = omega (arith, number a (map (λ w. w.0) vs)) in
      goes_then (cells b v.1) refl h
      (first.goes v.0 (map (λ w. w.0) vs) vb (omega arith) (omega arith) (is ∙ append_assoc (vectors a (v.0 ∷ map (λ w. w.0) vs)) (vectors b (v.1 ∷ map (λ w. w.1) vs)) others))
      second (λ second now room.
      let there = second.3.goes v.1 (map (λ w. w.1) vs) others (omega arith) (omega arith) (left_lent n vs₁ ∙ ap (drop n) now ∙ drop_at va vb n long) room in
      record {
        is = there.is;
        leaves = cc (second.1, left_returned n vs₁ second.0 second.2, take_at va vb n long, append_assoc va (vectors b (map (λ w. w.1) vs)) others);
        wrote = there.wrote;
      });
}

pub few_vectors : {a b : Ty} {us us' : List (List Int)} {w w' : Writer} {r : Option (Unit {0})} → length us < counted a → Gathers (pair a b) us w r us' w'
few_vectors {a} {b} {us} few = record {
  goes = λ v vs others small fits is h.
      absurd (omega (arith, ap length is, length-append (vectors (pair a b) (v ∷ vs)) others, number (pair a b) (v ∷ vs)));
}

-- ---- a list: its length and then its elements
-- the cells of the next n values
pub record GathersAll (t : Ty) (n : ℕ) (us : List (List Int)) (w : Writer) (r : Option (Unit {0})) (us' : List (List Int)) (w' : Writer) : Type 0 where
  pub goes : (vs ws : List (Val t)) (others : List (List Int)) → length vs ≡ n → parts t ≤ 8 → Countable (sum_by (size t) vs)
      → us ≡ vectors t (vs ++ ws) ++ others → length (flat_map (cells t) vs) ≤ length (room w)
      → Goes tt (vectors t ws ++ others) (flat_map (cells t) vs) w r us' w'

pub list_gathers : {a : Ty} {n : ℕ} {x : Int} {us : List (List Int)} {w w₁ w₂ : Writer} {r : Option (Unit {0})} (vs₁ rs : List (Bor (List Int)))
    → Some x ≡ first us → left vs₁ ≡ behind_first us → IsLength x (Some n) → Wrote w (x ∷ []) w₁
    → GathersAll a n (left (lent 1 vs₁)) w₁ r (left rs) w₂ → Gathers (list a) us w r (left (returned 1 vs₁ rs)) w₂
list_gathers {a} {n} {x} {w = w} {w₁ = w₁} vs₁ rs some behind is_length puts rest = record {
  goes = λ v vs others small fits is h.
      let same = entry-is is some in
      let now = behind ∙ ap behind_first is in
      let long : length v ≡ n = let q = length_is x (length v) (omega (arith, few a v)) same (Some n) is_length in cc in
      let here : Goes (tt {0}) (map (λ (w : List (Val a)). count (length w)) vs ∷ (vectors a (v ++ concat vs) ++ others)) (count (length v) ∷ []) w (Some tt) (left vs₁) w₁ =
      record { is = refl; leaves = now; wrote = subst (λ z. Wrote w (z ∷ []) w₁) same puts } in
      goes_then (flat_map (cells a) v) refl h (λ room. here) (inr rest) (λ rest now room.
      let there = rest.goes v (concat vs) others long (omega arith) (omega arith) (left_lent 1 vs₁ ∙ ap (drop 1) now) room in
      record {
        is = there.is;
        leaves = cc (left_returned 1 vs₁ rs (omega (arith, ap length now, length-map vs₁ (λ v. v.now))));
        wrote = there.wrote;
      });
}

pub list_stops : {a : Ty} {us us' : List (List Int)} {w w' : Writer} {r : Option (Unit {0})} → None ≡ first us → Gathers (list a) us w r us' w'
list_stops none = record { goes = λ v vs others small fits is h. absurd (no_entry is none) }

pub list_uncounted : {a : Ty} {x : Int} {us us' : List (List Int)} {w w' : Writer} {r : Option (Unit {0})} → Some x ≡ first us → IsLength x None
    → Gathers (list a) us w r us' w'
list_uncounted {a} {x} some is_length = record {
  goes = λ v vs others small fits is h.
      let e = length_is x (length v) (omega (arith, few a v)) (entry-is is some) None is_length in
      absurd (cc);
}

-- ---- values one after the other
pub gathers_none : {t : Ty} {n : ℕ} {us : List (List Int)} {w : Writer} → n ≡ 0 → GathersAll t n us w (Some tt) us w
gathers_none {t} {w = w} z = record {
  goes = λ vs ws others long small fits is h.
      let none : vs ≡ [] = nil_from_length vs (omega arith) in
      let empty : flat_map (cells t) vs ≡ [] = ap (flat_map (cells t)) none in
      rw empty (record { is = refl; leaves = is ∙ ap (λ us. vectors t (us ++ ws) ++ others) none; wrote = wrote_none w });
}

pub gathers_more : {t : Ty} {n : ℕ} {us us₁ us₂ : List (List Int)} {w w₁ w₂ : Writer} {r r₂ : Option (Unit {0})} (m : ℕ) → n ≡ suc m
    → Gathers t us w r us₁ w₁ → (r ≡ None) ⊎ GathersAll t m us₁ w₁ r₂ us₂ w₂ → GathersAll t n us w r₂ us₂ w₂
gathers_more {t} {n} {us} {us₂ = us₂} {w} {w₂ = w₂} {r₂ = r₂} m k first all = record { goes = by }
  where
    by : (vs ws : List (Val t)) (others : List (List Int)) → length vs ≡ n → parts t ≤ 8 → Countable (sum_by (size t) vs)
        → us ≡ vectors t (vs ++ ws) ++ others → length (flat_map (cells t) vs) ≤ length (room w)
        → Goes tt (vectors t ws ++ others) (flat_map (cells t) vs) w r₂ us₂ w₂
    by [] ws others l small fits is h = absurd (omega arith)
    by (v ∷ vs) ws others l small fits is h =
        goes_then (flat_map (cells t) vs) refl h (first.goes v (vs ++ ws) others small (omega arith) is)
        all (λ all. all.goes vs ws others (omega arith) small (omega arith))
