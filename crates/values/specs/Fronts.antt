-- What reading the front of a text answers.
use Rattle.std.specs.Prelude.{ℕ, List, Result, MatchResult}
use Rattle.values.specs.declared.front.Front.{Front}
use Rattle.values.specs.declared.front.Stopped.{Stopped}
use Rattle.values.specs.Reading.{ReadsFront, StopsAt}

-- the value whose text is the longest beginning of s that begins the text of one; or how much of s still begins one
abbrev pub ReadsValue : {X : Type 0} → (X → List ℕ) → List ℕ → Result (Front X) Stopped → Type 0
ReadsValue text s r = MatchResult r (λ x. ReadsFront text s x.value x.length) (λ stop. StopsAt text s stop.length)
