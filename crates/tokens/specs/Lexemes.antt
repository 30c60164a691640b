-- The longest token at a place of a text, and what is no token.
use Rattle.std.specs.Prelude.{◌≡◌, ℕ, ◌+◌, ◌<◌, ◌≤◌, true, false, List, length, Some, None, Ok, Err, Result, slice_index}
use Rattle.std.specs.Char.{is_ascii_digit, is_ascii_lowercase}
use Rattle.tokens.specs.declared.byte.Class.TheVariants.{InName, Digit}
use Rattle.tokens.specs.declared.fault.TokenFault.{TokenFault}
use Rattle.tokens.specs.declared.kind.Kind.{Kind}
use Rattle.tokens.specs.declared.kind.Kind.TheVariants.{NoToken, TooLarge, TooLong, Name, Number}
use Rattle.tokens.specs.declared.kind.Token.{Token}
use Rattle.tokens.specs.Bytes.{Run, part}
use Rattle.tokens.specs.Words.{IsWord, padded}
use Rattle.tokens.specs.Numbers.{worth}
use Rattle.tokens.specs.Signs.{sign_of, sign_length}
use Rattle.tokens.specs.Faults.{of_token, stop_of}

-- bytes that begin with a letter are a word, or else a name
pub data Spells (w : List ℕ) : Kind → Type 0 where
  word : {k : Kind} → IsWord w k → Spells w k
  name : ((k : Kind) → IsWord w k → ⊥) → Spells w (Name (record { bytes = padded w }))

-- the longest token at the place i has the kind k and ends at e
pub data Lexeme (bs : List ℕ) (i : ℕ) : Kind → ℕ → Type 0 where
  letters : {k : Kind} {e : ℕ} → is_ascii_lowercase (slice_index bs i) ≡ true → Run InName bs i e → e ≤ i + 16 → Spells (part bs i e) k → Lexeme bs i k e
  number : {v e : ℕ} → is_ascii_digit (slice_index bs i) ≡ true → Run Digit bs i e → v ≡ worth (part bs i e) → v ≤ 2147483647 → Lexeme bs i (Number v) e
  sign : {k : Kind} → is_ascii_lowercase (slice_index bs i) ≡ false → is_ascii_digit (slice_index bs i) ≡ false → sign_of (slice_index bs i) (slice_index bs (i + 1)) ≡ Some k → i + sign_length k ≤ length bs → Lexeme bs i k (i + sign_length k)

-- no token begins at the place i: a name too long, a number too large, another byte
pub data Unspelled (bs : List ℕ) (i : ℕ) : Kind → Type 0 where
  long : {e : ℕ} → is_ascii_lowercase (slice_index bs i) ≡ true → Run InName bs i e → i + 16 < e → Unspelled bs i TooLong
  large : {e : ℕ} → is_ascii_digit (slice_index bs i) ≡ true → Run Digit bs i e → 2147483647 < worth (part bs i e) → Unspelled bs i TooLarge
  strange : i < length bs → is_ascii_lowercase (slice_index bs i) ≡ false → is_ascii_digit (slice_index bs i) ≡ false → sign_of (slice_index bs i) (slice_index bs (i + 1)) ≡ None → Unspelled bs i NoToken

-- what is read at the place i: a token, or why there is none
abbrev pub Read : List ℕ → ℕ → Result Token TokenFault → Type 0
Read bs i (Ok t) = (t.at ≡ i) × Lexeme bs i t.kind t.end
Read bs i (Err f) = ((of_token f).place ≡ i) × Unspelled bs i (stop_of f)
