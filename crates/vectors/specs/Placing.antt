-- Where vectors stand among ints, and what the calls promise of them.
use Rattle.std.specs.Prelude.{◌≡◌, ℕ, ◌+◌, ◌-◌, ◌<◌, ◌≤◌, ◌⊎◌, List, [], ◌∷◌, ◌++◌, map, length, take, drop, Some, None, Option, if◌then◌else◌, nat_le}
use Rattle.monoid.specs.declared.int.Int.{Int}
use Rattle.monoid.specs.Segments.{concat}
use Rattle.types.specs.Types.{Ty, parts}
use Rattle.lang.specs.Values.{Val, size}
use Rattle.lang.specs.Layout.{cells, vectors}
use Rattle.vectors.specs.declared.span.Span.{Span}
use Rattle.vectors.specs.declared.span.Layout.{Layout}
use Rattle.vectors.specs.Vectors.{Countable}

-- how many ints a span has
abbrev pub extent : Span → ℕ
extent s = s.end - s.start

-- the ints of a span
abbrev pub entries : List Int → Span → List Int
entries ints s = take (extent s) (drop s.start ints)

-- the spans of vectors that stand one after the other from the place at on
abbrev pub spans_from : ℕ → List (List Int) → List Span
spans_from at [] = []
spans_from at (v ∷ vs) = record { start = at; end = at + length v } ∷ spans_from (at + length v) vs

-- the first spans of a layout, as many as it counts; none where it counts more than 8
abbrev pub spans_of : Layout → List Span
spans_of l = if nat_le l.count 8 then take l.count l.spans else []

-- span by span, the ints are the vectors
pub record Holds (ints : List Int) (spans : List Span) (vs : List (List Int)) : Type 0 where
  pub long : map extent spans ≡ map length vs
  pub held : map (entries ints) spans ≡ vs

-- the vectors of v were written one after the other, and what stands behind them is as it was
pub record Laid (t : Ty) (v : Val t) (spans : List Span) (out out' : List Int) : Type 0 where
  pub number : length spans ≡ parts t
  pub places : spans ≡ spans_from 0 (vectors t (v ∷ []))
  pub holds : Holds out' spans (vectors t (v ∷ []))
  pub wrote : out' ≡ concat (vectors t (v ∷ [])) ++ drop (size t v) out

-- the answer for a value, refused only for too many parts or too little room
abbrev pub Places : (t : Ty) → Val t → List Int → Option Layout → List Int → Type 0
Places t v out (Some l) out' = (parts t ≤ 8) × (size t v ≤ length out) × (l.count ≡ parts t) × Laid t v (spans_of l) out out'
Places t v out None out' = ((8 < parts t) ⊎ (length out < size t v)) × (out' ≡ out)

-- the answer for the cells of a value
abbrev pub Spreads : Ty → List Int → List Int → Option Layout → List Int → Type 0
Spreads t cs out r out' = (v : Val t) → Countable (size t v) → cs ≡ cells t v → Places t v out r out'
