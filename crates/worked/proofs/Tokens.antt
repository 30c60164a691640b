-- A text is cut by a test that comes with what it shows.
use Rattle.std.proofs.Common.{◌≡◌, ℕ, zero, suc, ◌+◌, ◌<◌, ◌≤◌, Bool, true, false, eqb, ltb, ◌⊎◌, List, [], ◌∷◌, length, get_or, Some, None, Option as Maybe, sym, refl, ap, ◌∙◌, subst, inl, inr, arith}
use mathlib.Core.Option.{Option, none, some}
use Rattle.std.specs.Char.{is_ascii_digit, is_ascii_lowercase}
use Rattle.std.proofs.lemmas.Bool.{ltb-true, eqb-true, both_ways, cases_lt}
use Rattle.tokens.specs.declared.byte.Class.{Class}
use Rattle.tokens.specs.declared.byte.Class.TheVariants.{Blank, InName, Digit}
use Rattle.tokens.specs.declared.kind.Kind.{Kind}
use Rattle.tokens.specs.declared.kind.Token.{Token}
use Rattle.tokens.specs.Bytes.{in_class, Run, part}
use Rattle.tokens.specs.Words.{spelling, all_words, IsWord, padded}
use Rattle.tokens.specs.Numbers.{worth}
use Rattle.tokens.specs.Signs.{sign_of, sign_length}
use Rattle.tokens.specs.Lexemes.{Spells, word, name, Lexeme, letters, number, sign}
use Rattle.tokens.specs.Cutting.{ended, Goes, ends, more}
use Rattle.lang.specs.Scope.{same_bytes}
use Rattle.lang.proofs.Names.{bytes_are, bytes_same}
use Rattle.worked.proofs.Tests.{and_then, true?, most?}

-- one way or the other, with the equation
abbrev pub split : {A : Type 0} (b : Bool) → (b ≡ true → A) → (b ≡ false → A) → A
split true f g = f refl
split false f g = g refl

abbrev less? : (m n : ℕ) → Option (m < n)
less? m n = and_then (true? (ltb m n)) λ e. some (ltb-true m n e)

-- the longest run of a class
module _ (p : Class) (bs : List ℕ) where
  pub no_run : (i : ℕ) → i ≤ length bs → in_class p (get_or bs i 0) ≡ false → Run p bs i i
  no_run i w h = record { from = omega arith; within = w; all = λ k a b. absurd (omega arith); stops = h }

  pub longer : (i e : ℕ) → in_class p (get_or bs i 0) ≡ true → Run p bs (i + 1) e → Run p bs i e
  longer i e h r = record { from = omega (arith, r.from); within = r.within; all = λ k a b. by k b (cases_lt i k) a; stops = r.stops }
    where
      by : (k : ℕ) → k < e → (i < k) ⊎ (k ≤ i) → i ≤ k → in_class p (get_or bs k 0) ≡ true
      by k b (inl l) a = r.all k (omega arith) b
      by k b (inr l) a = let q : i ≡ k = omega arith in subst (λ k. in_class p (get_or bs k 0) ≡ true) q h

  abbrev Runs : ℕ → Type 0
  Runs i = (e : ℕ) × Run p bs i e

  unfoldable pub run? : ℕ → (i : ℕ) → Option (Runs i)
  run? zero i = none
  run? (suc f) i =
      split (in_class p (get_or bs i 0)) (λ h. and_then (run? f (i + 1)) λ r. some (r.0, longer i r.0 h r.1))
      (λ h. and_then (most? i (length bs)) λ w. some (i, no_run i w h))

-- whether bytes are a word of a list
abbrev IsIn : List Kind → List ℕ → Type 0
IsIn ks w = (n : ℕ) × (n < length ks) × (w ≡ spelling (get_or ks n Kind.End))

abbrev NotIn : List Kind → List ℕ → Type 0
NotIn ks w = (n : ℕ) → n < length ks → w ≡ spelling (get_or ks n Kind.End) → ⊥

pub not_first : (k : Kind) (ks : List Kind) (w : List ℕ) → same_bytes w (spelling k) ≡ false → NotIn ks w → NotIn (k ∷ ks) w
not_first k ks w h never zero l e = both_ways _ h (ap (same_bytes w) (sym e) ∙ bytes_same w)
not_first k ks w h never (suc n) l e = never n (omega arith) e

abbrev pub later : (k : Kind) (ks : List Kind) (w : List ℕ) → IsIn ks w → IsIn (k ∷ ks) w
later k ks w x = (suc x.0, omega (arith, x.1), x.2)

abbrev next_word : (k : Kind) (ks : List Kind) (w : List ℕ) → same_bytes w (spelling k) ≡ false → IsIn ks w ⊎ NotIn ks w → IsIn (k ∷ ks) w ⊎ NotIn (k ∷ ks) w
next_word k ks w h (inl x) = inl (later k ks w x)
next_word k ks w h (inr never) = inr (not_first k ks w h never)

unfoldable pub word? : (ks : List Kind) (w : List ℕ) → IsIn ks w ⊎ NotIn ks w
word? [] w = inr (λ n l e. absurd (omega arith))
word? (k ∷ ks) w = split (same_bytes w (spelling k)) (λ h. inl (0, omega arith, bytes_are w (spelling k) h)) (λ h. next_word k ks w h (word? ks w))

-- a word, or else a name
pub no_word : (w : List ℕ) → NotIn all_words w → (k : Kind) → IsWord w k → ⊥
no_word w never k x = never x.0 x.1 (x.3 ∙ ap spelling (sym x.2))

abbrev spelled : (w : List ℕ) → IsIn all_words w ⊎ NotIn all_words w → (k : Kind) × Spells w k
spelled w (inl x) = (get_or all_words x.0 Kind.End, word (x.0, x.1, refl, x.2))
spelled w (inr never) = (Kind.Name (record { bytes = padded w }), name (no_word w never))

-- the token at a place
pub record LexemeAt (bs : List ℕ) (i : ℕ) : Type 0 where
  pub kind : Kind
  pub upto : ℕ
  pub is : Lexeme bs i kind upto

abbrev sign? : (o : Maybe Kind) → Option ((k : Kind) × (o ≡ Some k))
sign? None = none
sign? (Some k) = some (k, refl)

abbrev lexeme : {bs : List ℕ} {i : ℕ} (k : Kind) (e : ℕ) → Lexeme bs i k e → LexemeAt bs i
lexeme k e l = record { kind = k; upto = e; is = l }

abbrev letters? : (f : ℕ) (bs : List ℕ) (i : ℕ) → is_ascii_lowercase (get_or bs i 0) ≡ true → Option (LexemeAt bs i)
letters? f bs i h =
    and_then (run? InName bs f i) λ r. and_then (most? r.0 (i + 16)) λ s.
    let w : List ℕ = part bs i r.0 in
    some (lexeme (spelled w (word? all_words w)).0 r.0 (letters h r.1 s (spelled w (word? all_words w)).1))

abbrev digits? : (f : ℕ) (bs : List ℕ) (i : ℕ) → is_ascii_digit (get_or bs i 0) ≡ true → Option (LexemeAt bs i)
digits? f bs i h =
    and_then (run? Digit bs f i) λ r. and_then (most? (worth (part bs i r.0)) 2147483647) λ s.
    some (lexeme (Kind.Number (worth (part bs i r.0))) r.0 (number h r.1 refl s))

abbrev signs? : (bs : List ℕ) (i : ℕ) → is_ascii_lowercase (get_or bs i 0) ≡ false → is_ascii_digit (get_or bs i 0) ≡ false → Option (LexemeAt bs i)
signs? bs i h k =
    and_then (sign? (sign_of (get_or bs i 0) (get_or bs (i + 1) 0))) λ s. and_then (most? (i + sign_length s.0) (length bs)) λ w.
    some (lexeme s.0 (i + sign_length s.0) (sign h k s.1 w))

abbrev pub lexeme? : (f : ℕ) (bs : List ℕ) (i : ℕ) → Option (LexemeAt bs i)
lexeme? f bs i = split (is_ascii_lowercase (get_or bs i 0)) (letters? f bs i) (λ h. split (is_ascii_digit (get_or bs i 0)) (digits? f bs i) (λ k. signs? bs i h k))

-- all tokens, from a place on
pub record CutFrom (bs : List ℕ) (n i : ℕ) : Type 0 where
  pub tokens : List Token
  pub goes : Goes bs n i tokens

abbrev cut_from : {bs : List ℕ} {n i : ℕ} (ts : List Token) → Goes bs n i ts → CutFrom bs n i
cut_from ts g = record { tokens = ts; goes = g }

unfoldable pub cut? : ℕ → (bs : List ℕ) (n i : ℕ) → Option (CutFrom bs n i)
cut? zero bs n i = none
cut? (suc f) bs n i =
    and_then (run? Blank bs (suc f) i) λ r.
    split (eqb r.0 (length bs)) (λ e. some (cut_from (record { kind = Kind.End; at = r.0; end = r.0 } ∷ []) (ends r.1 (ended (eqb-true r.0 (length bs) e)))))
    (λ _. and_then (lexeme? (suc f) bs r.0) λ l. and_then (less? n 1024) λ few. and_then (cut? f bs (n + 1) l.upto) λ g.
    some (cut_from (record { kind = l.kind; at = r.0; end = l.upto } ∷ g.tokens) (more r.1 l.is few g.goes)))
