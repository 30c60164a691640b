-- Ints that are written one after the other.
use Rattle.std.specs.Prelude.{◌≡◌, ◌+◌, ◌<◌, List, [], ◌∷◌, ◌++◌, length, take, drop, Some, None, Option}
use Rattle.monoid.specs.declared.int.Int.{Int}
use Rattle.vectors.specs.declared.writer.Writer.{Writer}

abbrev pub done : Writer → List Int
done w = take w.to w.out.now

abbrev pub room : Writer → List Int
room w = drop w.to w.out.now

-- p was written
pub record Wrote (w : Writer) (p : List Int) (w' : Writer) : Type 0 where
  pub place : w'.to ≡ w.to + length p
  pub behind : done w' ≡ done w ++ p
  pub before : room w' ≡ drop (length p) (room w)

-- x was written, if there is room
abbrev pub Puts : Writer → Int → Option (Unit {0}) → Writer → Type 0
Puts w x (Some u) w' = (0 < length (room w)) × Wrote w (x ∷ []) w'
Puts w x None w' = (room w ≡ []) × (w'.to ≡ w.to) × (w'.out.now ≡ w.out.now)

-- a was answered, of what is gone over the rest is left, and p was written
pub record Goes {A R : Type 0} (a : A) (rest : R) (p : List Int) (w : Writer) (r : Option A) (rest' : R) (w' : Writer) : Type 0 where
  pub is : r ≡ Some a
  pub leaves : rest' ≡ rest
  pub wrote : Wrote w p w'
