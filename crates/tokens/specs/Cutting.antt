-- The tokens of a text.
use Rattle.std.specs.Prelude.{◌≡◌, ℕ, ◌+◌, ◌<◌, ◌≤◌, List, [], ◌∷◌, length}
use Rattle.tokens.specs.declared.byte.Class.TheVariants.{Blank}
use Rattle.tokens.specs.declared.kind.Kind.{Kind}
use Rattle.tokens.specs.declared.kind.Kind.TheVariants.{End, OverLimit}
use Rattle.tokens.specs.declared.kind.Token.{Token}
use Rattle.tokens.specs.Bytes.{Run}
use Rattle.tokens.specs.Lexemes.{Lexeme, Unspelled}

-- what no token follows at the place i after n tokens: the end, what is no token, or one token more than there may be
pub data Stop (bs : List ℕ) (n i : ℕ) : Kind → Type 0 where
  ended : i ≡ length bs → Stop bs n i End
  unspelled : {k : Kind} → Unspelled bs i k → Stop bs n i k
  beyond : {k : Kind} {e : ℕ} → Lexeme bs i k e → 1024 ≤ n → Stop bs n i OverLimit

-- what stands at the place i after n tokens: a stop, which takes no bytes, or the next token
pub data Next (bs : List ℕ) (n i : ℕ) : Token → Type 0 where
  stop : {k : Kind} → Stop bs n i k → Next bs n i (record { kind = k; at = i; end = i })
  token : {k : Kind} {e : ℕ} → Lexeme bs i k e → n < 1024 → Next bs n i (record { kind = k; at = i; end = e })

-- after n tokens the text goes on from the place i with these, blanks before each of them, up to a stop
pub data Goes (bs : List ℕ) : ℕ → ℕ → List Token → Type 0 where
  ends : {n i j : ℕ} {k : Kind} → Run Blank bs i j → Stop bs n j k → Goes bs n i (record { kind = k; at = j; end = j } ∷ [])
  more : {n i j e : ℕ} {k : Kind} {ts : List Token} → Run Blank bs i j → Lexeme bs j k e → n < 1024 → Goes bs (n + 1) e ts → Goes bs n i (record { kind = k; at = j; end = e } ∷ ts)

-- the text is cut into these tokens, the last of which is the stop
abbrev pub Cuts : List ℕ → List Token → Type 0
Cuts bs ts = Goes bs 0 0 ts
