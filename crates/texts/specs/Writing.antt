-- Writing a text from a place on, as far as the output has room.
use Rattle.std.specs.Prelude.{◌≡◌, ℕ, ◌+◌, ◌^◌, ◌<◌, ◌≤◌, List, ◌++◌, length, drop, slice_index_or}
use Rattle.std.proofs.lemmas.List.Edits.{sets}
use mir.Val.{hbits}
use Rattle.monoid.specs.declared.int.Int.{Int}
use Rattle.monoid.specs.Ints.{width, int_zero}
use Rattle.types.specs.Types.{Ty}
use Rattle.lang.specs.Values.{Val, size}
use Rattle.lang.specs.Layout.{cells, count}
use Rattle.texts.specs.declared.writer.Writer.{Writer}
use Rattle.texts.specs.Texts.{value_text}

-- the text was added, and these cells are left
pub record Adds (text : List ℕ) (left : List Int) (from to : Writer) : Type 0 where
  pub cells : to.cells.now ≡ left
  pub place : to.place ≡ from.place + length text
  pub written : to.out.now ≡ sets from.out.now from.place text

-- where places are numbers, the text was added, for no cells
pub record Puts (text : List ℕ) (from to : Writer) : Type 0 where
  pub same_reference : to.out.ghost_name ≡ from.out.ghost_name
  pub adds : from.place + length text < 2 ^ 64 → Adds text from.cells.now from to

-- the next cell holds x, or is past the end; it is taken, and nothing is written
pub record TakesCell (x : Int) (from to : Writer) : Type 0 where
  pub is : x ≡ slice_index_or from.cells.now 0 int_zero
  pub cells : to.cells.now ≡ drop 1 from.cells.now
  pub place : to.place ≡ from.place
  pub out : to.out ≡ from.out

-- n is the length that the cell holds, if it is one and there are as many cells behind it
abbrev pub Counts : Int → ℕ → ℕ → Type 0
Counts cell behind r = (n : ℕ) → n < 2 ^ hbits width → n ≤ behind → cell ≡ count n → r ≡ n

-- the next cell is taken, and n is the length that it holds
pub record TakesCount (n : ℕ) (from to : Writer) : Type 0 where
  pub cell : Int
  pub takes : TakesCell cell from to
  pub counts : Counts cell (length to.cells.now) n

-- the cells of v are next, with the cells of rest behind them; an int can count them, and places are numbers
pub record Lies (t : Ty) (v : Val t) (rest : List Int) (from : Writer) : Type 0 where
  pub is : from.cells.now ≡ cells t v ++ rest
  pub small : size t v < 2 ^ hbits width
  pub short : from.place + length (value_text t v) < 2 ^ 64

-- whatever value is next, its text was added
pub record Writes (t : Ty) (from to : Writer) : Type 0 where
  pub same_reference : to.out.ghost_name ≡ from.out.ghost_name
  pub adds : (v : Val t) (rest : List Int) → Lies t v rest from → Adds (value_text t v) rest from to
