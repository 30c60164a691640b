-- What the table of types holds, and what its calls answer.
use Rattle.std.specs.Prelude.{◌≡◌, ℕ, ◌+◌, ◌<◌, ◌≤◌, Bool, true, false, ◌⊎◌, List, [], ◌∷◌, ◌++◌, length, get_or, vec_items, ◌≢◌, slice_index_or}
use Rattle.std.proofs.Math.Option.{none, some}
use Rattle.types.specs.declared.node.TypeNode.{TypeNode}
use Rattle.types.specs.declared.node.TypeNode.TheVariants as node
use Rattle.types.specs.declared.table.TypeTable.{TypeTable}
use Rattle.types.specs.Types.{Ty, int, bool, pair, list, same}
use Rattle.types.specs.Entries.{types_of}

-- the types of the table in the order of their codes
abbrev pub types_in : TypeTable → List Ty
types_in t = types_of (vec_items t.entries)

abbrev pub type_of : TypeTable → ℕ → Ty
type_of t i = slice_index_or (types_in t) i int

-- the node says what the type of this code is, by types of smaller codes
abbrev pub Shows : List Ty → ℕ → TypeNode → Type 0
Shows ts i node.Int = slice_index_or ts i int ≡ int
Shows ts i node.Bool = slice_index_or ts i int ≡ bool
Shows ts i (node.Pair a b) = (a < i) × (b < i) × (slice_index_or ts i int ≡ pair (slice_index_or ts a int) (slice_index_or ts b int))
Shows ts i (node.List a) = (a < i) × (slice_index_or ts i int ≡ list (slice_index_or ts a int))

-- the answer is whether the two types are the same
abbrev pub Agrees : Bool → Ty → Ty → Type 0
Agrees true t u = (e : Id Ty t u) × (same t u ≡ some e)
Agrees false t u = same t u ≡ none

-- a type gets the code that it has, or else stands at the end of the table
abbrev pub Adds : List Ty → Ty → List Ty → ℕ → Type 0
Adds ts t us i =
    ((us ≡ ts) × (i < length ts)) ⊎ ((us ≡ ts ++ t ∷ []) × (i ≡ length ts) × ((j : ℕ) → j < length ts → slice_index_or ts j int ≢ t))

-- the code of t in a table that held the types ts and now holds us
pub record Interned (ts : List Ty) (t : Ty) (us : List Ty) (i : ℕ) : Type 0 where
  pub adds : Adds ts t us i
  pub within : i < length us
  pub is : get_or us i int ≡ t
  pub kept : (j : ℕ) → j < length ts → slice_index_or us j int ≡ slice_index_or ts j int
  pub longer : length ts ≤ length us
  pub little : length us ≤ length ts + 1
