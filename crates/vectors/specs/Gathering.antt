-- Cells gathered from vectors.
use Rattle.std.specs.Prelude.{◌≡◌, ℕ, ◌<◌, ◌≤◌, ◌⊎◌, List, [], ◌∷◌, ◌++◌, map, length, drop, Some, None, Option, MatchOption}
use denote.Ref.{Bor}
use Rattle.arrayvec.specs.ArrayVec.{ArrayVec}
use Rattle.monoid.specs.declared.int.Int.{Int}
use Rattle.types.specs.Types.{Ty, parts}
use Rattle.lang.specs.Values.{Val, size, sum_by}
use Rattle.lang.specs.Layout.{cells, vectors}
use Rattle.vectors.specs.declared.span.Span.{Span}
use Rattle.vectors.specs.declared.writer.Writer.{Writer}
use Rattle.vectors.specs.Placing.{extent, entries, Holds}
use Rattle.vectors.specs.Vectors.{Countable}
use Rattle.vectors.specs.Writing.{room, Goes}

-- what is left of the vectors
abbrev pub left : List (Bor (List Int)) → List (List Int)
left vectors = map (λ v. v.now) vectors

-- the first vector's next entry, if it has one
abbrev pub first : List (List Int) → Option Int
first [] = None
first ([] ∷ vs) = None
first ((x ∷ v) ∷ vs) = Some x

-- the vectors without it
abbrev pub behind_first : List (List Int) → List (List Int)
behind_first [] = []
behind_first ([] ∷ vs) = [] ∷ vs
behind_first ((x ∷ v) ∷ vs) = v ∷ vs

-- the cells of the next value, where its vectors come first, its entries in them, and there is room
pub record Gathers (t : Ty) (us : List (List Int)) (w : Writer) (r : Option (Unit {0})) (us' : List (List Int)) (w' : Writer) : Type 0 where
  pub goes : (v : Val t) (vs : List (Val t)) (others : List (List Int)) → parts t ≤ 8 → Countable (size t v) → us ≡ vectors t (v ∷ vs) ++ others
      → length (cells t v) ≤ length (room w) → Goes tt (vectors t vs ++ others) (cells t v) w r us' w'

-- the vectors of the spans, if there is room for all that the spans ask for
abbrev pub Found : List Int → List Span → ℕ → Option (ArrayVec (Bor (List Int))) → Type 0
Found ints spans n r =
    let vs = map (entries ints) spans in
    MatchOption r ((8 < length spans) ⊎ (n < sum_by extent spans)) (λ f. (left f.items ≡ vs) × (sum_by extent spans ≤ n) × (sum_by length vs ≤ n))

-- the cells of v were written, and what stands behind them is as it was; refused only for too many parts or too little room
abbrev pub Joined : (t : Ty) → Val t → List Int → Option ℕ → List Int → Type 0
Joined t v out (Some n) out' = (parts t ≤ 8) × (size t v ≤ length out) × (n ≡ size t v) × (out' ≡ cells t v ++ drop (size t v) out)
Joined t v out None out' = ((8 < parts t) ⊎ (length out < size t v)) × (out' ≡ out)

-- the answer for the vectors of a value
abbrev pub Joins : Ty → List Int → List Span → List Int → Option ℕ → List Int → Type 0
Joins t ints spans out r out' = (v : Val t) → Countable (size t v) → Holds ints spans (vectors t (v ∷ [])) → Joined t v out r out'
