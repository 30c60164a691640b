-- Tests of kinds, numbers and names that come with what they show.
use Rattle.std.proofs.Common.{◌≡◌, ℕ, ◌≤◌, Bool, true, false, eqb, leb, refl, eqb-true}
use mathlib.Core.Option.{Option, none, some}
use Rattle.std.proofs.lemmas.Bool.{leb-true, false≢true}
use Rattle.tokens.specs.declared.kind.Kind.{Kind}
use Rattle.tokens.specs.declared.kind.Kind.TheVariants as kind
use Rattle.tokens.specs.declared.kind.Name.{Name}
use Rattle.tokens.specs.contracts.kind.KindPartialEq.TheImpl.{ghosts}
use Rattle.tokens.proofs.Same.{same}

abbrev pub and_then : {A B : Type 0} → Option A → (A → Option B) → Option B
and_then none f = none
and_then (some a) f = f a

abbrev pub found : {A : Type 0} → Option A → Bool
found none = false
found (some a) = true

-- what a test that passes shows
pub shown : {A : Type 0} (o : Option A) → found o ≡ true → A
shown none h = absurd (false≢true h)
shown (some a) h = a

-- a truth value, with its equation
abbrev pub true? : (b : Bool) → Option (b ≡ true)
true? true = some refl
true? false = none

abbrev pub false? : (b : Bool) → Option (b ≡ false)
false? true = none
false? false = some refl

abbrev pub number? : (m n : ℕ) → Option (m ≡ n)
number? m n = and_then (true? (eqb m n)) λ e. some (eqb-true m n e)

abbrev pub most? : (m n : ℕ) → Option (m ≤ n)
most? m n = and_then (true? (leb m n)) λ e. some (leb-true m n e)

-- a kind
abbrev pub kind? : (k l : Kind) → Option (k ≡ l)
kind? k l = and_then (true? (ghosts.eq k l)) λ h. some (same k l _ refl h)

abbrev pub name? : (k : Kind) → Option ((n : Name) × (k ≡ Kind.Name n))
name? kind.End = none
name? kind.NoToken = none
name? kind.TooLarge = none
name? kind.TooLong = none
name? kind.OverLimit = none
name? (kind.Name n) = some (n, refl)
name? (kind.Number _) = none
name? kind.Main = none
name? kind.Int = none
name? kind.Bool = none
name? kind.Let = none
name? kind.In = none
name? kind.If = none
name? kind.Then = none
name? kind.Else = none
name? kind.True = none
name? kind.False = none
name? kind.Empty = none
name? kind.Fst = none
name? kind.Snd = none
name? kind.Len = none
name? kind.Range = none
name? kind.Flat = none
name? kind.Part = none
name? kind.Scan = none
name? kind.Reduce = none
name? kind.Sum = none
name? kind.Max = none
name? kind.Or = none
name? kind.Lin = none
name? kind.House = none
name? kind.Open = none
name? kind.Close = none
name? kind.SquareOpen = none
name? kind.SquareClose = none
name? kind.CurlyOpen = none
name? kind.CurlyClose = none
name? kind.Comma = none
name? kind.Colon = none
name? kind.Bar = none
name? kind.Equal = none
name? kind.Same = none
name? kind.Less = none
name? kind.Plus = none
name? kind.Minus = none
name? kind.Times = none
name? kind.Divide = none
name? kind.Remainder = none

abbrev pub value? : (k : Kind) → Option ((v : ℕ) × (k ≡ Kind.Number v))
value? kind.End = none
value? kind.NoToken = none
value? kind.TooLarge = none
value? kind.TooLong = none
value? kind.OverLimit = none
value? (kind.Name _) = none
value? (kind.Number v) = some (v, refl)
value? kind.Main = none
value? kind.Int = none
value? kind.Bool = none
value? kind.Let = none
value? kind.In = none
value? kind.If = none
value? kind.Then = none
value? kind.Else = none
value? kind.True = none
value? kind.False = none
value? kind.Empty = none
value? kind.Fst = none
value? kind.Snd = none
value? kind.Len = none
value? kind.Range = none
value? kind.Flat = none
value? kind.Part = none
value? kind.Scan = none
value? kind.Reduce = none
value? kind.Sum = none
value? kind.Max = none
value? kind.Or = none
value? kind.Lin = none
value? kind.House = none
value? kind.Open = none
value? kind.Close = none
value? kind.SquareOpen = none
value? kind.SquareClose = none
value? kind.CurlyOpen = none
value? kind.CurlyClose = none
value? kind.Comma = none
value? kind.Colon = none
value? kind.Bar = none
value? kind.Equal = none
value? kind.Same = none
value? kind.Less = none
value? kind.Plus = none
value? kind.Minus = none
value? kind.Times = none
value? kind.Divide = none
value? kind.Remainder = none

abbrev pub end? : (k : Kind) → Option (k ≡ Kind.End)
end? kind.End = some refl
end? kind.NoToken = none
end? kind.TooLarge = none
end? kind.TooLong = none
end? kind.OverLimit = none
end? (kind.Name _) = none
end? (kind.Number _) = none
end? kind.Main = none
end? kind.Int = none
end? kind.Bool = none
end? kind.Let = none
end? kind.In = none
end? kind.If = none
end? kind.Then = none
end? kind.Else = none
end? kind.True = none
end? kind.False = none
end? kind.Empty = none
end? kind.Fst = none
end? kind.Snd = none
end? kind.Len = none
end? kind.Range = none
end? kind.Flat = none
end? kind.Part = none
end? kind.Scan = none
end? kind.Reduce = none
end? kind.Sum = none
end? kind.Max = none
end? kind.Or = none
end? kind.Lin = none
end? kind.House = none
end? kind.Open = none
end? kind.Close = none
end? kind.SquareOpen = none
end? kind.SquareClose = none
end? kind.CurlyOpen = none
end? kind.CurlyClose = none
end? kind.Comma = none
end? kind.Colon = none
end? kind.Bar = none
end? kind.Equal = none
end? kind.Same = none
end? kind.Less = none
end? kind.Plus = none
end? kind.Minus = none
end? kind.Times = none
end? kind.Divide = none
end? kind.Remainder = none
