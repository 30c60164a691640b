-- Vectors one after the other, and their spans.
use Rattle.std.proofs.Common.{◌≡◌, ℕ, ◌+◌, ◌-◌, ◌<◌, ◌≤◌, List, [], ◌∷◌, ◌++◌, map, length, take, drop, Some, None, Option, sym, refl, ap, ◌∙◌, append_assoc, append-nil, add-zero, arith, length-append, take-append-drop}
use denote.MutBor.{MutBor}
use Rattle.std.proofs.lemmas.List.{take_all, take_at, drop_at, drop-drop, take_more, length-map}
use Rattle.monoid.specs.declared.int.Int.{Int}
use Rattle.monoid.specs.Segments.{concat}
use Rattle.types.specs.Types.{Ty, parts}
use Rattle.types.specs.Entries.{counted}
use Rattle.lang.specs.Values.{Val, size, sum_by}
use Rattle.lang.specs.Layout.{cells, vectors}
use Rattle.vectors.specs.declared.span.Span.{Span}
use Rattle.vectors.specs.declared.writer.Writer.{Writer}
use Rattle.vectors.specs.Vectors.{Countable, part}
use Rattle.vectors.specs.Writing.{room, Wrote, Goes}
use Rattle.vectors.specs.Walking.{Walks}
use Rattle.vectors.specs.Placing.{extent, entries, spans_from, Laid}
use Rattle.vectors.proofs.Sums.{number, sized, celled, concat-append}
use Rattle.vectors.proofs.Writing.{wrote_none, wrote_on, room_left, wrote-is}

-- ---- spans
length-concat : (vs : List (List Int)) → length (concat vs) ≡ sum_by length vs
length-concat [] = refl
length-concat (v ∷ vs) = omega (arith, length-append v (concat vs), length-concat vs)

-- a span from a place on
abbrev span_at : ℕ → ℕ → Span
span_at at n = record { start = at; end = at + n }

spans_push : (at : ℕ) (vs : List (List Int)) (v : List Int)
    → spans_from at (vs ++ (v ∷ [])) ≡ spans_from at vs ++ (span_at (at + length (concat vs)) (length v) ∷ [])
spans_push at [] v = simp add-zero
spans_push at (w ∷ vs) v =
    let place : (at + length w) + length (concat vs) ≡ at + length (w ++ concat vs) = omega (arith, length-append w (concat vs)) in
    cc (spans_push (at + length w) vs v)

extents : (at : ℕ) (vs : List (List Int)) → map extent (spans_from at vs) ≡ map length vs
extents at [] = refl
extents at (v ∷ vs) =
    let here : (at + length v) - at ≡ length v = omega arith in
    cc (extents (at + length v) vs)

held_from : (xs : List Int) (vs : List (List Int)) (rest : List Int) (at : ℕ) → drop at xs ≡ concat vs ++ rest → map (entries xs) (spans_from at vs) ≡ vs
held_from xs [] rest at e = refl
held_from xs (v ∷ vs) rest at e =
    let n : (at + length v) - at ≡ length v = omega arith in
    let now : drop at xs ≡ v ++ (concat vs ++ rest) = e ∙ append_assoc v (concat vs) rest in
    let here : take ((at + length v) - at) (drop at xs) ≡ v = cc (take_at v (concat vs ++ rest) (length v) refl) in
    let next : drop (at + length v) xs ≡ concat vs ++ rest = cc (drop-drop (length v) at xs, drop_at v (concat vs ++ rest) (length v) refl) in
    cc (held_from xs vs rest (at + length v) next)

-- ---- vector k behind the first k
module _ (vs : List (List Int)) (k : ℕ) (h : k < length vs) where
  concat_more : concat (take (k + 1) vs) ≡ concat (take k vs) ++ part vs k
  concat_more = simp (take_more vs k [] h, concat-append, append-nil)

  spans_more : (at : ℕ) → spans_from at (take (k + 1) vs)
      ≡ spans_from at (take k vs) ++ (span_at (at + length (concat (take k vs))) (length (part vs k)) ∷ [])
  spans_more at = ap (spans_from at) (take_more vs k [] h) ∙ spans_push at (take k vs) (part vs k)

  part_within : length (concat (take k vs)) + length (part vs k) ≤ length (concat vs)
  part_within =
      let split : concat vs ≡ concat (take (k + 1) vs) ++ concat (drop (k + 1) vs) = cc (
        take-append-drop (k + 1) vs,
        concat-append (take (k + 1) vs) (drop (k + 1) vs),
      ) in
      omega (
        arith,
        ap length split,
        length-append (concat (take (k + 1) vs)) (concat (drop (k + 1) vs)),
        ap length concat_more,
        length-append (concat (take k vs)) (part vs k),
      )

-- ---- the first k vectors were written
pub record Spread (vs : List (List Int)) (k : ℕ) (w : Writer) (spans : List Span) (w' : Writer) : Type 0 where
  pub wrote : Wrote w (concat (take k vs)) w'
  pub places : spans ≡ spans_from w.to (take k vs)

pub record SpreadTo (t : Ty) (k : ℕ) (cs : List Int) (w : Writer) (spans : List Span) (w' : Writer) : Type 0 where
  pub spread : (v : Val t) → Countable (size t v) → cs ≡ cells t v → parts t ≤ 8 → size t v ≤ length (room w) → Spread (vectors t (v ∷ [])) k w spans w'

pub spread_none : {t : Ty} {cs : List Int} {w : Writer} → SpreadTo t 0 cs w [] w
spread_none {w = w} = record { spread = λ v fits is small h. record { wrote = wrote_none w; places = refl } }

all : (t : Ty) (v : Val t) → length (concat (vectors t (v ∷ []))) ≡ size t v
all t v = length-concat (vectors t (v ∷ [])) ∙ sized t (v ∷ []) ∙ add-zero (size t v)

module _ {t : Ty} {k : ℕ} {cs cs' : List Int} {w w₁ w₂ : Writer} {spans : List Span} {r : Option (Unit {0})} (so_far : SpreadTo t k cs w spans w₁)
    (more : k < counted t) (walks : Walks t (Some k) cs w₁ r cs' w₂) where
  module _ (v : Val t) (fits : Countable (size t v)) (is : cs ≡ cells t v) (small : parts t ≤ 8) (h : size t v ≤ length (room w)) where
    within : k < length (vectors t (v ∷ []))
    within = omega (arith, number t (v ∷ []))

    walked : Goes tt [] (part (vectors t (v ∷ [])) k) w₁ r cs' w₂
    walked =
        let was = so_far.spread v fits is small h in
        walks.goes v [] small fits (is ∙ sym (append-nil (cells t v)))
        (omega (arith, room_left was.wrote, part_within (vectors t (v ∷ [])) k within, all t v))

  pub spread_more : SpreadTo t (k + 1) cs w (spans ++ (record { start = w₁.to; end = w₂.to } ∷ [])) w₂
  spread_more = record {
    spread = λ v fits is small h.
        let vs = vectors t (v ∷ []) in
        let was = so_far.spread v fits is small h in
        let g = (walked v fits is small h).wrote in
        record {
          wrote = rw (concat_more vs k (within v fits is small h)) (wrote_on was.wrote g);
          places = cc (spans_more vs k (within v fits is small h) w.to);
        };
  }

  pub spread_stops : counted t ≤ 8 → length cs ≤ length (room w) → r ≡ None → (v : Val t) → Countable (size t v) → cs ≡ cells t v → ⊥
  spread_stops few h none v fits is =
      let e = (walked v fits is (omega arith) (omega (arith, ap length is, celled t v))).is in absurd (cc)

pub spread_all : {t : Ty} {k : ℕ} {cs out' : List Int} {out : MutBor (List Int)} {spans : List Span} {w : Writer}
    → SpreadTo t k cs (record { out = out; to = 0 }) spans w → counted t ≤ k → counted t ≤ 8 → length cs ≤ length out.now → out' ≡ w.out.now
    → (v : Val t) → Countable (size t v) → cs ≡ cells t v → (parts t ≤ 8) × (size t v ≤ length out.now) × Laid t v spans out.now out'
spread_all {t} {k} {cs} {out'} {out} {spans} {w} so_far enough few h after v fits is =
    let vs = vectors t (v ∷ []) in
    let roomy : size t v ≤ length out.now = omega (arith, ap length is, celled t v) in
    let small : parts t ≤ 8 = omega arith in
    let was = so_far.spread v fits is small roomy in
    let whole : take k vs ≡ vs = take_all k vs (omega (arith, number t (v ∷ []))) in
    let wrote : out' ≡ concat vs ++ drop (size t v) out.now = cc (wrote-is was.wrote, all t v) in
    let places : spans ≡ spans_from 0 vs = cc in
    let long : map extent spans ≡ map length vs = cc (extents 0 vs) in (
      small,
      roomy,
      record {
        number = omega (arith, ap length long, length-map spans extent, length-map vs (λ v. length v), number t (v ∷ []));
        places = places;
        holds = record {
          long = long;
          held = cc (held_from out' vs (drop (size t v) out.now) 0 wrote);
        };
        wrote = wrote;
      },
    )
