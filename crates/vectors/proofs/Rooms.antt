-- The room that vectors need, and the cells of a value whose vectors have it.
use Rattle.std.proofs.Common.{◌≡◌, ℕ, ◌+◌, ◌<◌, ◌≤◌, ◌⊎◌, inl, inr, Some, None, Option, List, [], ◌∷◌, ◌++◌, map, length, get_or, take, drop, sym, refl, ap, ◌∙◌, arith, append-nil, add-zero, take-append-drop}
use denote.MutBor.{MutBor}
use Rattle.std.proofs.lemmas.List.{map_more, take_more, length-map, length-take}
use Rattle.monoid.specs.declared.int.Int.{Int}
use Rattle.types.specs.Types.{Ty, parts}
use Rattle.lang.specs.Values.{Val, size, sum_by}
use Rattle.lang.specs.Layout.{cells, vectors}
use Rattle.vectors.specs.declared.span.Span.{Span}
use Rattle.vectors.specs.declared.writer.Writer.{Writer}
use Rattle.vectors.specs.Vectors.{Countable}
use Rattle.vectors.specs.Writing.{Goes}
use Rattle.vectors.specs.Placing.{extent, entries, Holds}
use Rattle.vectors.specs.Gathering.{Gathers, Joined}
use Rattle.vectors.proofs.Sums.{number, sized, celled, sum-append, same_sums}
use Rattle.vectors.proofs.Writing.{wrote-is}

abbrev pub nowhere : Span
nowhere = record { start = 0; end = 0 }

-- the entries of the first i vectors and one more
pub found_more : (ints : List Int) (spans : List Span) (i : ℕ) (d : Span) → i < length spans
    → map (entries ints) (take (i + 1) spans) ≡ map (entries ints) (take i spans) ++ (entries ints (get_or spans i d) ∷ [])
found_more ints = map_more (entries ints)

-- the sum of the first i and one more
module _ {A : Type 0} (f : A → ℕ) (xs : List A) (i : ℕ) (d : A) (h : i < length xs) where
  pub sum_more : sum_by f (take (i + 1) xs) ≡ sum_by f (take i xs) + f (get_or xs i d)
  sum_more = omega (arith, ap (sum_by f) (take_more xs i d h), sum-append f (take i xs) (get_or xs i d ∷ []))

  pub sum_within : sum_by f (take (i + 1) xs) ≤ sum_by f xs
  sum_within = omega (arith, ap (sum_by f) (take-append-drop (i + 1) xs), sum-append f (take (i + 1) xs) (drop (i + 1) xs))

-- no vector is longer than its span asks
pub lengths_within : (ints : List Int) (spans : List Span) → sum_by length (map (entries ints) spans) ≤ sum_by extent spans
lengths_within ints [] = omega arith
lengths_within ints (s ∷ spans) = omega (arith, length-take (extent s) (drop s.start ints), lengths_within ints spans)

-- the vectors of v
module _ (t : Ty) {ints : List Int} {spans : List Span} (v : Val t) (holds : Holds ints spans (vectors t (v ∷ []))) where
  as_many : length (map (entries ints) spans) ≡ parts t
  as_many = ap length holds.held ∙ number t (v ∷ [])

  as_long : sum_by extent spans ≡ size t v
  as_long = same_sums extent length spans (vectors t (v ∷ [])) holds.long ∙ sized t (v ∷ []) ∙ add-zero (size t v)

  pub not_found : {out : List Int} → (8 < length spans) ⊎ (length out < sum_by extent spans) → Joined t v out None out
  not_found (inl many) = (inl (omega (arith, as_many, length-map spans (entries ints))), refl)
  not_found (inr little) = (inr (omega (arith, as_long)), refl)

  -- what was gathered into a new writer
  module _ {us us' : List (List Int)} {out : MutBor (List Int)} {w : Writer} {r : Option (Unit {0})} (found : us ≡ map (entries ints) spans)
      (few : length us ≤ 8) (h : sum_by extent spans ≤ length out.now) (fits : Countable (size t v))
      (gathers : Gathers t us (record { out = out; to = 0 }) r us' w) where
    pub gathered : Goes tt (vectors t [] ++ []) (cells t v) (record { out = out; to = 0 }) r us' w
    gathered = gathers.goes v [] [] (omega (arith, ap length found, as_many)) fits (found ∙ holds.held ∙ sym (append-nil (vectors t (v ∷ []))))
        (omega (arith, as_long, celled t v))

    pub joined : {out' : List Int} → out' ≡ w.out.now → Joined t v out.now (Some w.to) out'
    joined after =
        let small : parts t ≤ 8 = omega (arith, ap length found, as_many) in
        let place : w.to ≡ size t v = omega (arith, gathered.wrote.place, celled t v) in (
          small,
          omega (arith, as_long),
          place,
          after ∙ wrote-is gathered.wrote ∙ ap (λ i. cells t v ++ drop i out.now) (celled t v),
        )
