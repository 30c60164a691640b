-- What is proved of cells and vectors, for every type.
use Rattle.std.specs.Prelude.{◌≡◌, ℕ, ◌≤◌, List, [], ◌∷◌, ◌++◌, length, drop, Some, Option}
use Rattle.types.specs.Types.{Ty, parts}
use Rattle.lang.specs.Values.{Val, size, sum_by}
use Rattle.lang.specs.Layout.{cells, vectors}
use Rattle.monoid.specs.declared.int.Int.{Int}
use Rattle.vectors.specs.declared.span.Span.{Span}
use Rattle.vectors.specs.Vectors.{Countable, beside}
use Rattle.vectors.specs.Placing.{Holds, Laid}
use Rattle.vectors.specs.Gathering.{Joins}

-- a type has as many vectors as parts
abbrev pub PartsLaw : Type 0
PartsLaw = (t : Ty) (vs : List (Val t)) → length (vectors t vs) ≡ parts t

-- vectors have as many entries as the values have sizes
abbrev pub SizeLaw : Type 0
SizeLaw = (t : Ty) (vs : List (Val t)) → sum_by length (vectors t vs) ≡ sum_by (size t) vs

-- values after values are vectors beside vectors
abbrev pub AppendLaw : Type 0
AppendLaw = (t : Ty) (vs ws : List (Val t)) → vectors t (vs ++ ws) ≡ beside (vectors t vs) (vectors t ws)

-- no other values have the same vectors
abbrev pub VectorsFaithful : Type 0
VectorsFaithful = (t : Ty) (vs ws : List (Val t)) → Countable (sum_by (size t) vs) → vectors t vs ≡ vectors t ws → vs ≡ ws

-- spans hold the vectors of one value at most
abbrev pub LayoutFaithful : Type 0
LayoutFaithful =
    (t : Ty) (v w : Val t) (ints : List Int) (spans : List Span) → Countable (size t v) → Holds ints spans (vectors t (v ∷ []))
    → Holds ints spans (vectors t (w ∷ [])) → v ≡ w

-- a value has as many cells as its size says
abbrev pub CellsLaw : Type 0
CellsLaw = (t : Ty) (v : Val t) → length (cells t v) ≡ size t v

-- no other value has the same cells, whatever stands behind them
abbrev pub CellsFaithful : Type 0
CellsFaithful =
    (t : Ty) (v w : Val t) (xs ys : List Int) → Countable (size t v) → Countable (size t w) → cells t v ++ xs ≡ cells t w ++ ys → (v ≡ w) × (xs ≡ ys)

-- a value that went into vectors comes back from them: to its cells, if there is room for them
abbrev pub BackLaw : Type 0
BackLaw =
    (t : Ty) (v : Val t) (spans : List Span) (out out' back : List Int) (r : Option ℕ) (back' : List Int) → Countable (size t v)
    → Laid t v spans out out' → Joins t out' spans back r back' → parts t ≤ 8 → size t v ≤ length back → (r ≡ Some (size t v)) × (back' ≡ cells t v ++ drop (size t v) back)

pub record VectorLaws : Type 0 where
  pub number : PartsLaw
  pub sizes : SizeLaw
  pub append : AppendLaw
  pub faithful : VectorsFaithful
  pub layouts : LayoutFaithful

pub record CellLaws : Type 0 where
  pub sizes : CellsLaw
  pub faithful : CellsFaithful
