-- Bytes by class, and the longest runs of them. Past the end of a list `get_or` reads 0, a byte of no class.
use Rattle.std.specs.Prelude.{◌≡◌, ℕ, ◌<◌, ◌≤◌, Bool, true, false, ◌||◌, List, length, ◌==◌, slice_index, slice_range}
use Rattle.std.specs.Char.{is_ascii_digit, is_ascii_lowercase}
use Rattle.tokens.specs.declared.byte.Class.{Class}
use Rattle.tokens.specs.declared.byte.Class.TheVariants.{Blank, InName, Digit}

-- a byte that may stand between tokens
abbrev pub blank : ℕ → Bool
blank b = b == 32 || b == 10

-- a byte that may go on in a name
abbrev pub in_name : ℕ → Bool
in_name b = is_ascii_lowercase b || (is_ascii_digit b || b == 95)

abbrev pub in_class : Class → ℕ → Bool
in_class Blank b = blank b
in_class InName b = in_name b
in_class Digit b = is_ascii_digit b

-- the longest run of bytes of the class p from the place i ends at e
pub record Run (p : Class) (bs : List ℕ) (i e : ℕ) : Type 0 where
  pub from : i ≤ e
  pub within : e ≤ length bs
  pub all : (k : ℕ) → i ≤ k → k < e → in_class p (slice_index bs k) ≡ true
  pub stops : in_class p (slice_index bs e) ≡ false

-- the bytes from the place i up to e
abbrev pub part : List ℕ → ℕ → ℕ → List ℕ
part bs i e = slice_range bs i e

-- bytes of one class only
abbrev pub AllIn : Class → List ℕ → Type 0
AllIn p w = (k : ℕ) → k < length w → in_class p (slice_index w k) ≡ true
