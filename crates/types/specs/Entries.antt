-- The types that a list of entries holds, and what always holds of such a list.
use Rattle.std.specs.Prelude.{◌≡◌, ℕ, suc, ◌<◌, ◌≤◌, min, max, Bool, true, false, List, [], ◌∷◌, ◌++◌, length, get_or, slice_index_or}
use Rattle.types.specs.declared.node.TypeNode.{TypeNode}
use Rattle.types.specs.declared.node.TypeNode.TheVariants as node
use Rattle.types.specs.declared.node.Entry.{Entry}
use Rattle.types.specs.Types.{Ty, int, bool, pair, list, parts}

-- the type that a node is, over the types that its codes name
abbrev pub ty_of : List Ty → TypeNode → Ty
ty_of ts node.Int = int
ty_of ts node.Bool = bool
ty_of ts (node.Pair a b) = pair (slice_index_or ts a int) (slice_index_or ts b int)
ty_of ts (node.List a) = list (slice_index_or ts a int)

-- each entry adds its type to those before it
unfoldable pub types_after : List Ty → List Entry → List Ty
types_after ts [] = ts
types_after ts (e ∷ es) = types_after (ts ++ ty_of ts e.node ∷ []) es

abbrev pub types_of : List Entry → List Ty
types_of es = types_after [] es

-- the first code above all that a node names
abbrev pub above : TypeNode → ℕ
above node.Int = 0
above node.Bool = 0
above (node.Pair a b) = max (suc a) (suc b)
above (node.List a) = suc a

-- how the table counts a type's parts: it stops at a million
abbrev pub counted : Ty → ℕ
counted t = min (parts t) 1000000

abbrev pub blank : Entry
blank = record { node = node.Int; count = 0 }

abbrev pub int_entry : Entry
int_entry = record { node = node.Int; count = 1 }

-- which node stands at an index
abbrev pub NodeAt : List Entry → ℕ → TypeNode → Type 0
NodeAt es i n = (get_or es i blank).node ≡ n

abbrev pub Missing : List Entry → TypeNode → Type 0
Missing es n = (i : ℕ) → i < length es → NodeAt es i n → ⊥

-- what every table begins with
abbrev pub first : List Entry
first = int_entry ∷ record { node = node.Bool; count = 1 } ∷ []

abbrev pub is_int : Ty → Bool
is_int int = true
is_int bool = false
is_int (pair a b) = false
is_int (list a) = false

abbrev pub is_bool : Ty → Bool
is_bool int = false
is_bool bool = true
is_bool (pair a b) = false
is_bool (list a) = false

-- the first two types are ints and bools
abbrev pub Starts : List Entry → Type 0
Starts es = (2 ≤ length es) × (is_int (slice_index_or (types_of es) 0 int) ≡ true) × (is_bool (slice_index_or (types_of es) 1 int) ≡ true)

-- each node names earlier codes only
abbrev pub Below : List Entry → Type 0
Below es = (i : ℕ) (d : Entry) → i < length es → above (get_or es i d).node ≤ i

abbrev pub Counts : List Entry → Type 0
Counts es = (i : ℕ) (d : Entry) → i < length es → (get_or es i d).count ≡ counted (slice_index_or (types_of es) i int)

-- two codes of the same type
pub record Alike (ts : List Ty) (i j : ℕ) : Type 0 where
  pub left : i < length ts
  pub right : j < length ts
  pub same : get_or ts i int ≡ slice_index_or ts j int

-- no type stands twice
abbrev pub Once : List Entry → Type 0
Once es = (i j : ℕ) → Alike (types_of es) i j → i ≡ j
