-- How the list of tokens grows, and what every such list keeps to.
use Rattle.std.proofs.Common.{◌≡◌, ℕ, zero, suc, ◌+◌, ◌-◌, ◌<◌, ◌≤◌, true, false, List, [], ◌∷◌, ◌++◌, length, sym, refl, ap, ◌∙◌, subst, arith}
use Rattle.std.proofs.lemmas.List.{append_assoc, length_push}
use Rattle.std.proofs.lemmas.Bool.{both_ways}
use Rattle.tokens.specs.declared.byte.Class.TheVariants.{Blank}
use Rattle.tokens.specs.declared.kind.Kind.{Kind}
use Rattle.tokens.specs.declared.kind.Token.{Token}
use Rattle.tokens.specs.Bytes.{Run}
use Rattle.tokens.specs.Kinds.{is_stop, kind_at, place_at, stopped, unstopped}
use Rattle.tokens.specs.Lexemes as lexemes
use Rattle.tokens.specs.Lexemes.{Lexeme, Unspelled}
use Rattle.tokens.specs.Cutting as said
use Rattle.tokens.specs.Cutting.{Stop, Next, Goes, Cuts}
use Rattle.tokens.proofs.Lexemes.{lexeme_on, lexeme_within, lexeme_plain}

-- a token as read is the next one
pub taken : (bs : List ℕ) (n i : ℕ) (t : Token) → t.at ≡ i → Lexeme bs i t.kind t.end → n < 1024 → Next bs n i t
taken bs n i t at is few = subst (λ x. Next bs n i (record { kind = t.kind; at = x; end = t.end })) (sym at) (said.token is few)

pub unspelled_stops : {bs : List ℕ} {i : ℕ} {k : Kind} → Unspelled bs i k → is_stop k ≡ true
unspelled_stops (lexemes.long _ _ _) = refl
unspelled_stops (lexemes.large _ _ _) = refl
unspelled_stops (lexemes.strange _ _ _ _) = refl

-- no stop is a token
pub stop_stops : {bs : List ℕ} {n i : ℕ} {k : Kind} → Stop bs n i k → is_stop k ≡ true
stop_stops (said.ended _) = refl
stop_stops (said.unspelled u) = unspelled_stops u
stop_stops (said.beyond _ _) = refl

-- the list ends with a stop
pub next_ends : {bs : List ℕ} {n i j : ℕ} {t : Token} → Run Blank bs i j → Next bs n j t → is_stop t.kind ≡ true → Goes bs n i (t ∷ [])
next_ends run (said.stop s) h = said.ends run s
next_ends run (said.token l few) h = absurd (both_ways _ (lexeme_plain l) h)

-- and goes on after a token
pub next_goes : {bs : List ℕ} {n i j : ℕ} {t : Token} {ts : List Token} → Run Blank bs i j → Next bs n j t → is_stop t.kind ≡ false → Goes bs (n + 1) t.end ts → Goes bs n i (t ∷ ts)
next_goes run (said.stop s) h g = absurd (both_ways _ h (stop_stops s))
next_goes run (said.token l few) h g = said.more run l few g

-- a token that is no stop is one of the first 1,024, and goes on in the text
pub next_on : {bs : List ℕ} {n j : ℕ} {t : Token} → Next bs n j t → is_stop t.kind ≡ false → (n < 1024) × (j < t.end) × (t.end ≤ length bs)
next_on (said.stop s) h = absurd (both_ways _ h (stop_stops s))
next_on (said.token l few) h = (few, lexeme_on l, lexeme_within l)

-- whatever the text goes on with from the place i, after the tokens xs it is cut so
abbrev pub Open : List ℕ → List Token → ℕ → Type 0
Open bs xs i = (ts : List Token) → Goes bs (length xs) i ts → Cuts bs (xs ++ ts)

pub grown : (bs : List ℕ) (xs ys : List Token) (n i j : ℕ) (t : Token) → Open bs xs i → Run Blank bs i j → Next bs n j t → is_stop t.kind ≡ false → n ≡ length xs → ys ≡ xs ++ t ∷ [] → Open bs ys t.end
grown bs xs ys n i j t far run next plain count push =
    let one : Open bs (xs ++ t ∷ []) t.end = λ ts g.
    let more : Goes bs (n + 1) t.end ts = subst (λ m. Goes bs m t.end ts) (length_push xs t ∙ ap (λ m. m + 1) (sym count)) g in
    subst (Cuts bs) (sym (append_assoc xs (t ∷ []) ts)) (far (t ∷ ts) (subst (λ m. Goes bs m i (t ∷ ts)) count (next_goes run next plain more)))
    in
    subst (λ zs. Open bs zs t.end) (sym push) one

pub closed : (bs : List ℕ) (xs ys : List Token) (n i j : ℕ) (t : Token) → Open bs xs i → Run Blank bs i j → Next bs n j t → is_stop t.kind ≡ true → n ≡ length xs → ys ≡ xs ++ t ∷ [] → Cuts bs ys
closed bs xs ys n i j t far run next stop count push =
    subst (Cuts bs) (sym push) (far (t ∷ []) (subst (λ m. Goes bs m i (t ∷ [])) count (next_ends run next stop)))

pub goes_some : {bs : List ℕ} {n i : ℕ} {ts : List Token} → Goes bs n i ts → 0 < length ts
goes_some (said.ends _ _) = omega arith
goes_some (said.more _ _ _ _) = omega arith

pub goes_few : {bs : List ℕ} {n i : ℕ} {ts : List Token} → Goes bs n i ts → n ≤ 1024 → length ts + n ≤ 1025
goes_few (said.ends _ _) h = omega arith
goes_few (said.more _ _ few g) h = omega (arith, goes_few g (omega arith))

-- the last is a stop
pub goes_stopped : {bs : List ℕ} {n i : ℕ} {ts : List Token} → Goes bs n i ts → stopped ts
goes_stopped (said.ends _ s) = stop_stops s
goes_stopped (said.more {j = j} {e = e} {k = k} {ts = ts} _ _ _ g) =
    let last : suc (length ts - 1) ≡ suc (length ts) - 1 = omega (arith, goes_some g) in
    subst (λ m. is_stop (kind_at (record { kind = k; at = j; end = e } ∷ ts) m) ≡ true) last (goes_stopped g)

-- and none before it is
pub goes_unstopped : {bs : List ℕ} {n i : ℕ} {ts : List Token} → Goes bs n i ts → unstopped ts
goes_unstopped (said.ends _ _) k h = absurd (omega arith)
goes_unstopped (said.more _ l _ g) zero h = lexeme_plain l
goes_unstopped (said.more _ l _ g) (suc k) h = goes_unstopped g k (omega arith)

-- each stands in the text or at its end
pub goes_places : {bs : List ℕ} {n i : ℕ} {ts : List Token} → Goes bs n i ts → (k : ℕ) → place_at ts k ≤ length bs
goes_places (said.ends run _) zero = run.within
goes_places (said.ends _ _) (suc k) = omega arith
goes_places (said.more run _ _ _) zero = run.within
goes_places (said.more _ _ _ g) (suc k) = goes_places g k
