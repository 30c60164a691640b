-- What printing leaves in the output.
use Rattle.std.specs.Prelude.{◌≡◌, ℕ, ◌^◌, ◌<◌, List, take, Result, MatchResult}
use mir.Val.{hbits}
use Rattle.monoid.specs.declared.int.Int.{Int}
use Rattle.monoid.specs.Ints.{width}
use Rattle.types.specs.Types.{Ty}
use Rattle.lang.specs.Values.{Val, size}
use Rattle.lang.specs.Layout.{cells}
use Rattle.values.specs.Printing.{Printed, Short}
use Rattle.values.specs.declared.print.TooShort.{TooShort}
use Rattle.texts.specs.Texts.{value_text}

-- the first cells are those of v, and an int can count them
pub record Holds (t : Ty) (v : Val t) (cs : List Int) : Type 0 where
  pub is : take (size t v) cs ≡ cells t v
  pub small : size t v < 2 ^ hbits width

-- whatever value the cells hold, its text was printed, or has no room
abbrev pub Prints : Ty → List Int → List ℕ → List ℕ → Result ℕ TooShort → Type 0
Prints t cs out out' r = (v : Val t) → Holds t v cs → MatchResult r (λ n. Printed (value_text t v) n out out') (λ f. Short (value_text t v) f.needed out out')
