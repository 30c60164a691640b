-- A text is cut in one way only.
use Rattle.std.proofs.Common.{◌≡◌, ℕ, ◌+◌, ◌<◌, true, List, get_or, sym, refl, ap, ◌∙◌, subst, arith}
use Rattle.std.specs.Char.{is_ascii_digit, is_ascii_lowercase}
use Rattle.std.proofs.lemmas.Bool.{and_parts, both_ways, leb-true}
use Rattle.tokens.specs.declared.kind.Kind.{Kind}
use Rattle.tokens.specs.declared.kind.Kind.TheVariants as kind
use Rattle.tokens.specs.declared.kind.Token.{Token}
use Rattle.tokens.specs.Bytes.{part}
use Rattle.tokens.specs.Numbers.{worth}
use Rattle.tokens.specs.Signs.{sign_length}
use Rattle.tokens.specs.Lexemes as lexemes
use Rattle.tokens.specs.Lexemes.{Spells, Lexeme, Unspelled}
use Rattle.tokens.specs.Cutting as said
use Rattle.tokens.specs.Cutting.{Stop, Goes, Cuts}
use Rattle.tokens.proofs.Runs.{run-same}
use Rattle.tokens.proofs.Tables.{word_same}
use Rattle.tokens.proofs.Lexemes.{lexeme_on, lexeme_within, unspelled_within}

-- no letter is a digit
letter_no_digit : (bs : List ℕ) (i : ℕ) → is_ascii_lowercase (get_or bs i 0) ≡ true → is_ascii_digit (get_or bs i 0) ≡ true → ⊥
letter_no_digit bs i low dig =
    let b = get_or bs i 0 in
    omega (arith, leb-true 97 b (and_parts _ _ low).0, leb-true b 57 (and_parts _ _ dig).1)

spells_same : {w : List ℕ} {k l : Kind} → Spells w k → Spells w l → k ≡ l
spells_same {w} {k} {l} (lexemes.word is) (lexemes.word so) = word_same w k l is so
spells_same (lexemes.word is) (lexemes.name none) = absurd (none _ is)
spells_same (lexemes.name none) (lexemes.word is) = absurd (none _ is)
spells_same (lexemes.name none) (lexemes.name never) = refl

-- one token is the longest at a place
pub lexeme_same : {bs : List ℕ} {i : ℕ} {k : Kind} {e : ℕ} {l : Kind} {f : ℕ} → Lexeme bs i k e → Lexeme bs i l f → (k ≡ l) × (e ≡ f)
lexeme_same {bs} {i} {l = l} (lexemes.letters low run few is) (lexemes.letters _ run' _ so) =
    let end = run-same run run' in
    (spells_same is (subst (λ x. Spells (part bs i x) l) (sym end) so), end)
lexeme_same {bs} {i} (lexemes.letters low _ _ _) (lexemes.number dig _ _ _) = absurd (letter_no_digit bs i low dig)
lexeme_same (lexemes.letters low _ _ _) (lexemes.sign no-low _ _ _) = absurd (both_ways _ no-low low)
lexeme_same {bs} {i} (lexemes.number dig _ _ _) (lexemes.letters low _ _ _) = absurd (letter_no_digit bs i low dig)
lexeme_same {bs} {i} (lexemes.number dig run is few) (lexemes.number _ run' so _) =
    let end = run-same run run' in
    (ap kind.Number (is ∙ ap (λ x. worth (part bs i x)) end ∙ sym so), end)
lexeme_same (lexemes.number dig _ _ _) (lexemes.sign _ no-dig _ _) = absurd (both_ways _ no-dig dig)
lexeme_same (lexemes.sign no-low _ _ _) (lexemes.letters low _ _ _) = absurd (both_ways _ no-low low)
lexeme_same (lexemes.sign _ no-dig _ _) (lexemes.number dig _ _ _) = absurd (both_ways _ no-dig dig)
lexeme_same {i = i} {k = k} {l = l} (lexemes.sign _ _ is _) (lexemes.sign _ _ so _) = let same : k ≡ l = cc in (same, ap (λ x. i + sign_length x) same)

-- where a token begins, one does
pub lexeme_spelled : {bs : List ℕ} {i : ℕ} {k : Kind} {e : ℕ} {l : Kind} → Lexeme bs i k e → Unspelled bs i l → ⊥
lexeme_spelled (lexemes.letters _ run few _) (lexemes.long _ run' many) = omega (arith, run-same run run')
lexeme_spelled {bs} {i} (lexemes.letters low _ _ _) (lexemes.large dig _ _) = letter_no_digit bs i low dig
lexeme_spelled (lexemes.letters low _ _ _) (lexemes.strange _ no-low _ _) = both_ways _ no-low low
lexeme_spelled {bs} {i} (lexemes.number dig _ _ _) (lexemes.long low _ _) = letter_no_digit bs i low dig
lexeme_spelled {bs} {i} (lexemes.number _ run is few) (lexemes.large _ run' many) = omega (arith, ap (λ x. worth (part bs i x)) (run-same run run'))
lexeme_spelled (lexemes.number dig _ _ _) (lexemes.strange _ _ no-dig _) = both_ways _ no-dig dig
lexeme_spelled (lexemes.sign no-low _ _ _) (lexemes.long low _ _) = both_ways _ no-low low
lexeme_spelled (lexemes.sign _ no-dig _ _) (lexemes.large dig _ _) = both_ways _ no-dig dig
lexeme_spelled (lexemes.sign _ _ is _) (lexemes.strange _ _ _ none) = let z : ◌≡◌ {A = ℕ} 0 1 = cc in omega arith

unspelled_same : {bs : List ℕ} {i : ℕ} {k l : Kind} → Unspelled bs i k → Unspelled bs i l → k ≡ l
unspelled_same (lexemes.long _ _ _) (lexemes.long _ _ _) = refl
unspelled_same {bs} {i} (lexemes.long low _ _) (lexemes.large dig _ _) = absurd (letter_no_digit bs i low dig)
unspelled_same (lexemes.long low _ _) (lexemes.strange _ no-low _ _) = absurd (both_ways _ no-low low)
unspelled_same {bs} {i} (lexemes.large dig _ _) (lexemes.long low _ _) = absurd (letter_no_digit bs i low dig)
unspelled_same (lexemes.large _ _ _) (lexemes.large _ _ _) = refl
unspelled_same (lexemes.large dig _ _) (lexemes.strange _ _ no-dig _) = absurd (both_ways _ no-dig dig)
unspelled_same (lexemes.strange _ no-low _ _) (lexemes.long low _ _) = absurd (both_ways _ no-low low)
unspelled_same (lexemes.strange _ _ no-dig _) (lexemes.large dig _ _) = absurd (both_ways _ no-dig dig)
unspelled_same (lexemes.strange _ _ _ _) (lexemes.strange _ _ _ _) = refl

-- one stop stands at a place
stop_same : {bs : List ℕ} {n i : ℕ} {k l : Kind} → Stop bs n i k → Stop bs n i l → k ≡ l
stop_same (said.ended _) (said.ended _) = refl
stop_same (said.ended end) (said.unspelled u) = absurd (omega (arith, unspelled_within u))
stop_same (said.ended end) (said.beyond l _) = absurd (omega (arith, lexeme_on l, lexeme_within l))
stop_same (said.unspelled u) (said.ended end) = absurd (omega (arith, unspelled_within u))
stop_same (said.unspelled u) (said.unspelled v) = unspelled_same u v
stop_same (said.unspelled u) (said.beyond l _) = absurd (lexeme_spelled l u)
stop_same (said.beyond l _) (said.ended end) = absurd (omega (arith, lexeme_on l, lexeme_within l))
stop_same (said.beyond l _) (said.unspelled u) = absurd (lexeme_spelled l u)
stop_same (said.beyond _ _) (said.beyond _ _) = refl

-- and none where a token may be taken
stop_alone : {bs : List ℕ} {n i : ℕ} {k l : Kind} {e : ℕ} → Stop bs n i k → Lexeme bs i l e → n < 1024 → ⊥
stop_alone (said.ended end) l few = omega (arith, lexeme_on l, lexeme_within l)
stop_alone (said.unspelled u) l few = lexeme_spelled l u
stop_alone (said.beyond _ full) l few = omega arith

goes_same : {bs : List ℕ} {n i : ℕ} {ts us : List Token} → Goes bs n i ts → Goes bs n i us → ts ≡ us
goes_same {bs} {n} (said.ends {k = k} run s) (said.ends {k = l} run' s') =
    let at = run-same run run' in
    let is : k ≡ l = stop_same s (subst (λ x. Stop bs n x l) (sym at) s') in
    cc
goes_same {bs} {n} (said.ends run s) (said.more {e = e} {k = l} run' is few _) = absurd (stop_alone s (subst (λ x. Lexeme bs x l e) (sym (run-same run run')) is) few)
goes_same {bs} {n} (said.more {e = e} {k = l} run is few _) (said.ends run' s) = absurd (stop_alone s (subst (λ x. Lexeme bs x l e) (run-same run run') is) few)
goes_same {bs} {n} (said.more {e = e} {k = k} {ts = ts} run is few g) (said.more {e = f} {k = l} {ts = us} run' so _ g') =
    let at = run-same run run' in
    let same = lexeme_same is (subst (λ x. Lexeme bs x l f) (sym at) so) in
    let kinds = same.0 in
    let ends = same.1 in
    let rest : ts ≡ us = goes_same g (subst (λ x. Goes bs (n + 1) x us) (sym ends) g') in
    cc

-- a text is cut into one list of tokens
pub cuts_same : (bs : List ℕ) (ts us : List Token) → Cuts bs ts → Cuts bs us → ts ≡ us
cuts_same bs ts us c d = goes_same c d
