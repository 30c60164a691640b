-- A walk over the cells of values that writes the entries of one of their vectors.
use Rattle.std.specs.Prelude.{◌≡◌, ℕ, ◌≤◌, List, [], ◌∷◌, ◌++◌, length, pos, ◌<ℤ◌, Some, None, Option}
use Rattle.monoid.specs.declared.int.Int.{Int}
use Rattle.types.specs.Types.{Ty, parts}
use Rattle.lang.specs.Values.{Val, size}
use Rattle.lang.specs.Layout.{cells, vectors}
use Rattle.vectors.specs.declared.writer.Writer.{Writer}
use Rattle.vectors.specs.Vectors.{Countable, part}
use Rattle.vectors.specs.Writing.{room, Goes}

-- the length that an int stands for; a negative one is none
abbrev pub IsLength : Int → Option ℕ → Type 0
IsLength x (Some n) = x.value ≡ pos n
IsLength x None = x.value <ℤ pos 0

-- the entries of the vector that is wanted, if one is
abbrev pub wanted : Option ℕ → List (List Int) → List Int
wanted (Some k) vs = part vs k
wanted None vs = []

-- of vectors behind n others, r is wanted
pub record Past (k : Option ℕ) (n : ℕ) (r : Option ℕ) : Type 0 where
  pub past : (vs ws : List (List Int)) → length vs ≡ n → wanted k (vs ++ ws) ≡ wanted k vs ++ wanted r ws

-- over one cell, where there is room
pub record Steps (k : Option ℕ) (cs : List Int) (w : Writer) (r : Option Int) (cs' : List Int) (w' : Writer) : Type 0 where
  pub goes : (x : Int) (rest : List Int) → cs ≡ x ∷ rest → length (wanted k ((x ∷ []) ∷ [])) ≤ length (room w)
      → Goes x rest (wanted k ((x ∷ []) ∷ [])) w r cs' w'

-- over a value, where its cells come next and there is room
pub record Walks (t : Ty) (k : Option ℕ) (cs : List Int) (w : Writer) (r : Option (Unit {0})) (cs' : List Int) (w' : Writer) : Type 0 where
  pub goes : (v : Val t) (rest : List Int) → parts t ≤ 8 → Countable (size t v) → cs ≡ cells t v ++ rest
      → length (wanted k (vectors t (v ∷ []))) ≤ length (room w) → Goes tt rest (wanted k (vectors t (v ∷ []))) w r cs' w'
