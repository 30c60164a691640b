-- Tokens are made from what their bytes are; where they lie; none is a stop.
use Rattle.std.proofs.Common.{◌≡◌, ℕ, ◌+◌, ◌-◌, ◌<◌, ◌≤◌, false, List, length, get_or, take, drop, Some, None, Option, MatchOption, sym, refl, ap, ◌∙◌, subst, ⊎_elim, arith}
use Rattle.std.specs.Char.{is_ascii_digit, is_ascii_lowercase}
use Rattle.std.specs.Option.{unwrap_or}
use Rattle.std.proofs.lemmas.List.{take_rest, get_or-drop}
use Rattle.std.proofs.lemmas.Bool.{or_left}
use Rattle.tokens.specs.declared.byte.Class.TheVariants.{InName, Digit}
use Rattle.tokens.specs.declared.kind.Kind.{Kind}
use Rattle.tokens.specs.declared.kind.Kind.TheVariants as kind
use Rattle.tokens.specs.declared.kind.Name.{Name}
use Rattle.tokens.specs.Kinds.{is_stop}
use Rattle.tokens.specs.Words.{IsWord, padded}
use Rattle.tokens.specs.Signs.{sign_of, sign_length}
use Rattle.tokens.specs.Lexemes as said
use Rattle.tokens.specs.Lexemes.{Lexeme, Unspelled, Spells}
use Rattle.tokens.proofs.Runs.{not_empty, in_text}
use Rattle.tokens.proofs.Signs.{sign-plain, sign-length, sign-within}
use Rattle.tokens.proofs.Tables.{word-plain}

-- a name from its sixteen bytes
named : (w : List ℕ) (n : Name) → n.bytes ≡ padded w → ((k : Kind) → IsWord w k → ⊥) → Spells w (kind.Name n)
named w n e none = subst (λ bytes. Spells w (kind.Name (record { bytes = bytes }))) (sym e) (said.name none)

-- the word that bytes are, or else their name
pub spelt : (w : List ℕ) (o : Option Kind) (n : Name) (k : Kind) → n.bytes ≡ padded w → MatchOption o ((l : Kind) → IsWord w l → ⊥) (IsWord w) → k ≡ unwrap_or o (kind.Name n) → Spells w k
spelt w None n k e none is = subst (Spells w) (sym is) (named w n e none)
spelt w (Some l) n k e so is = subst (Spells w) (sym is) (said.word so)

-- a sign from the bytes on, as read
abbrev rest : List ℕ → ℕ → List ℕ
rest bs i = take (length bs - i) (drop i bs)

read_on : (bs : List ℕ) (i j k : ℕ) → i + k ≡ j → get_or (rest bs i) k 0 ≡ get_or bs j 0
read_on bs i j k e = ap (λ l. get_or l k 0) (take_rest bs i) ∙ get_or-drop i bs k 0 ∙ ap (λ m. get_or bs m 0) e

sign_on : (bs : List ℕ) (i : ℕ) → sign_of (get_or bs i 0) (get_or bs (i + 1) 0) ≡ sign_of (get_or (rest bs i) 0 0) (get_or (rest bs i) 1 0)
sign_on bs i = ap (λ b. sign_of b (get_or bs (i + 1) 0)) (sym (read_on bs i i 0 (omega arith))) ∙ ap (sign_of (get_or (rest bs i) 0 0)) (sym (read_on bs i (i + 1) 1 refl))

pub signed : (bs : List ℕ) (i m : ℕ) (k : Kind) → i < length bs → is_ascii_lowercase (get_or bs i 0) ≡ false → is_ascii_digit (get_or bs i 0) ≡ false → sign_of (get_or (rest bs i) 0 0) (get_or (rest bs i) 1 0) ≡ Some k → m ≡ sign_length k → Lexeme bs i k (i + m)
signed bs i m k lt low dig is long =
    let sign = sign_on bs i ∙ is in
    subst (λ x. Lexeme bs i k (i + x)) (sym long) (said.sign low dig sign (sign-within bs (get_or bs i 0) i k lt sign))

pub unsigned : (bs : List ℕ) (i : ℕ) → i < length bs → is_ascii_lowercase (get_or bs i 0) ≡ false → is_ascii_digit (get_or bs i 0) ≡ false → sign_of (get_or (rest bs i) 0 0) (get_or (rest bs i) 1 0) ≡ None → Unspelled bs i kind.NoToken
unsigned bs i lt low dig is = said.strange lt low dig (sign_on bs i ∙ is)

-- a token has at least one byte
pub lexeme_on : {bs : List ℕ} {i : ℕ} {k : Kind} {e : ℕ} → Lexeme bs i k e → i < e
lexeme_on (said.letters low run few is) = not_empty run (or_left _ _ low)
lexeme_on (said.number dig run is few) = not_empty run dig
lexeme_on {k = k} (said.sign low dig is within) = ⊎_elim (λ one. omega arith) (λ two. omega arith) (sign-length k)

-- and lies in the text
pub lexeme_within : {bs : List ℕ} {i : ℕ} {k : Kind} {e : ℕ} → Lexeme bs i k e → e ≤ length bs
lexeme_within (said.letters low run few is) = run.within
lexeme_within (said.number dig run is few) = run.within
lexeme_within (said.sign low dig is within) = within

pub unspelled_within : {bs : List ℕ} {i : ℕ} {k : Kind} → Unspelled bs i k → i < length bs
unspelled_within {bs} {i} (said.long low run many) = in_text InName bs i (or_left _ _ low)
unspelled_within {bs} {i} (said.large dig run many) = in_text Digit bs i dig
unspelled_within (said.strange lt low dig none) = lt

spells_plain : {w : List ℕ} {k : Kind} → Spells w k → is_stop k ≡ false
spells_plain {w} {k} (said.word is) = word-plain w k is
spells_plain (said.name none) = refl

-- no token is a stop
pub lexeme_plain : {bs : List ℕ} {i : ℕ} {k : Kind} {e : ℕ} → Lexeme bs i k e → is_stop k ≡ false
lexeme_plain (said.letters low run few is) = spells_plain is
lexeme_plain (said.number dig run is few) = refl
lexeme_plain {bs} {i} {k} (said.sign low dig is within) = sign-plain (get_or bs i 0) (get_or bs (i + 1) 0) k is
