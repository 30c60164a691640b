-- What is written one after the other.
use Rattle.std.proofs.Common.{◌≡◌, ◌-◌, ◌≤◌, ◌⊎◌, inl, inr, Option, Some, None, List, [], ◌++◌, length, drop, sym, refl, ap, ◌∙◌, append-nil, add-zero, append_assoc, arith, length-append, length-drop, take-append-drop}
use Rattle.std.proofs.lemmas.List.{drop-drop}
use Rattle.monoid.specs.declared.int.Int.{Int}
use Rattle.vectors.specs.declared.writer.Writer.{Writer}
use Rattle.vectors.specs.Writing.{done, room, Wrote, Goes}

pub wrote_none : (w : Writer) → Wrote w [] w
wrote_none w = record { place = sym (add-zero w.to); behind = sym (append-nil (done w)); before = refl }

module _ {w w₁ : Writer} {p : List Int} (g : Wrote w p w₁) where
  pub room_left : length (room w₁) ≡ length (room w) - length p
  room_left = ap length g.before ∙ length-drop (length p) (room w)

  pub wrote_on : {w₂ : Writer} {q : List Int} → Wrote w₁ q w₂ → Wrote w (p ++ q) w₂
  wrote_on {w₂} {q} h = record {
    place = omega (arith, g.place, h.place, length-append p q);
    behind = cc (append_assoc (done w) p q);
    before = cc (drop-drop (length q) (length p) (room w), length-append p q);
  }

  -- what stands there then
  pub wrote-is : w₁.out.now ≡ (done w ++ p) ++ drop (length p) (room w)
  wrote-is = cc (take-append-drop w₁.to w₁.out.now)

-- ---- one after the other
pub stuck : {A R : Type 0} {a : A} {x x' : R} {p : List Int} {w w' : Writer} → Goes a x p w None x' w' → ⊥
stuck g = let e = g.is in cc

module _ {A R : Type 0} {a : A} {x x' : R} {all p : List Int} (q : List Int) {w w₁ : Writer} {r : Option A} (split : all ≡ p ++ q)
    (h : length all ≤ length (room w)) (goes : length p ≤ length (room w) → Goes a x p w r x' w₁) where
  pub goes_first : Goes a x p w r x' w₁
  goes_first = goes (omega (arith, ap length split, length-append p q))

  -- and then what comes next, or else the first step was refused
  pub goes_then : {B S N : Type 0} {b : B} {y y' : S} {w₂ : Writer} {s : Option B} → (r ≡ None) ⊎ N
      → (N → x' ≡ x → length q ≤ length (room w₁) → Goes b y q w₁ s y' w₂) → Goes b y all w s y' w₂
  goes_then (inl none) next = let e = goes_first.is in absurd (cc)
  goes_then (inr more) next =
      let g = goes_first in
      let n = next more g.leaves (omega (arith, room_left g.wrote, ap length split, length-append p q)) in
      rw split (record { is = n.is; leaves = n.leaves; wrote = wrote_on g.wrote n.wrote })

-- another answer
pub answered : {A B R : Type 0} {a : A} (b : B) {x x' : R} {p : List Int} {w w' : Writer} {r : Option A} → Goes a x p w r x' w' → Goes b x p w (Some b) x' w'
answered b g = record { is = refl; leaves = g.leaves; wrote = g.wrote }
