-- What reading a whole text answers.
use Rattle.std.specs.Prelude.{◌≡◌, ℕ, ◌<◌, List, ◌++◌, length, drop, Result, MatchResult}
use Rattle.refusal.specs.declared.Refusal.{Refusal}
use Rattle.monoid.specs.declared.int.Int.{Int}
use Rattle.types.specs.Types.{Ty}
use Rattle.lang.specs.Values.{Val, size}
use Rattle.lang.specs.Layout.{cells}
use Rattle.texts.specs.declared.fault.ReadFault.{ReadFault}
use Rattle.texts.specs.declared.fault.ReadFault.TheVariants.{NoValue, TooLarge}
use Rattle.values.specs.Reading.{NoText}
use Rattle.texts.specs.Texts.{value_text}

-- the number and the place of each refusal
abbrev pub of_read : ReadFault → Refusal
of_read (NoValue place) = record { number = 11; place = place }
of_read TooLarge = record { number = 12; place = 0 }

-- s is the text of a value of the type t and of no other; its cells, n of them, stand first, and further cells are as they were
pub record IsValue (t : Ty) (s : List ℕ) (n : ℕ) (cs cs' : List Int) : Type 0 where
  pub value : Val t
  pub is : s ≡ value_text t value
  pub only : (other : Val t) → s ≡ value_text t other → other ≡ value
  pub sized : n ≡ size t value
  pub stored : cs' ≡ cells t value ++ drop n cs

-- s is the text of a value whose size is over the room
pub record Oversized (t : Ty) (s : List ℕ) (room : ℕ) : Type 0 where
  pub value : Val t
  pub is : s ≡ value_text t value
  pub over : room < size t value

abbrev pub Unread : Ty → List ℕ → ℕ → ReadFault → Type 0
Unread t s room (NoValue place) = NoText (value_text t) s place
Unread t s room TooLarge = Oversized t s room

-- what reading a text into some cells answers, which are all the room that there is
abbrev pub Reads : Ty → List ℕ → List Int → List Int → Result ℕ ReadFault → Type 0
Reads t s cs cs' r = MatchResult r (λ n. IsValue t s n cs cs') (λ f. Unread t s (length cs) f)
