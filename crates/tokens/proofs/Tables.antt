-- What holds of each kind of a table, and the table of words.
use Rattle.std.proofs.Common.{◌≡◌, ℕ, zero, suc, ◌<◌, true, false, cond, List, [], ◌∷◌, length, get_or, Bor, Some, None, Option, IfSome, MatchOption, sym, refl, ap, ◌∙◌, subst, arith, rules}
use Rattle.std.specs.List.{HoldsAt, AllWithin}
use Rattle.std.specs.Str.{bytes_eq}
use Rattle.std.proofs.lemmas.Bool.{and_parts, le-ltb, ltb-true}
use Rattle.tokens.specs.declared.kind.Kind.{Kind}
use Rattle.tokens.specs.declared.kind.Kind.TheVariants.{End}
use Rattle.tokens.specs.Kinds.{code, is_stop}
use Rattle.tokens.specs.Words.{spelling, all_words, IsWord, word_kind}

-- what holds of each kind of a list
abbrev pub Each : (Kind → Type 0) → List Kind → Type 0
Each P [] = Unit {0}
Each P (k ∷ ks) = P k × Each P ks

-- the first kind of the list that is spelt so
abbrev first : List Kind → List ℕ → Kind
first [] w = End
first (k ∷ ks) w = cond (bytes_eq w (spelling k)) k (first ks w)

-- it is a word's kind, and the first of all words that is spelt as it
abbrev Listed : Kind → Type 0
Listed k = (word_kind k ≡ true) × (first all_words (spelling k) ≡ k)

each_at : (P : Kind → Type 0) (ks : List Kind) → Each P ks → (n : ℕ) → n < length ks → P (get_or ks n End)
each_at P [] h n lt = absurd (omega arith)
each_at P (k ∷ ks) h zero lt = h.0
each_at P (k ∷ ks) h (suc n) lt = each_at P ks h.1 n (omega arith)

listed : Each Listed all_words
listed = search rules

word_listed : (w : List ℕ) (k : Kind) → IsWord w k → Listed k
word_listed w k h = subst Listed h.2 (each_at Listed all_words listed h.0 h.1)

-- no word is a name or a number
pub word_kind_lem : (w : List ℕ) (k : Kind) → IsWord w k → word_kind k ≡ true
word_kind_lem w k h = (word_listed w k h).0

-- nor a stop
pub word-plain : (w : List ℕ) (k : Kind) → IsWord w k → is_stop k ≡ false
word-plain w k h = le-ltb (code k) 5 (omega (arith, ltb-true 6 (code k) (and_parts _ _ (word_kind_lem w k h)).0))

-- bytes are at most one word
pub word_same : (w : List ℕ) (k l : Kind) → IsWord w k → IsWord w l → k ≡ l
word_same w k l h g = sym (word_listed w k h).1 ∙ ap (first all_words) (sym h.3 ∙ g.3) ∙ (word_listed w l g).1

-- rows with the spelling and the kind of each of these words, in order
abbrev pub Rows : {A : Type 0} → (A → List ℕ) → (A → Kind) → List A → List Kind → Type 0
Rows s t [] [] = Unit {0}
Rows s t [] (k ∷ ks) = ⊥
Rows s t (r ∷ rs) [] = ⊥
Rows s t (r ∷ rs) (k ∷ ks) = (s r ≡ spelling k) × (t r ≡ k) × Rows s t rs ks

row_count : {A : Type 0} (s : A → List ℕ) (t : A → Kind) (rs : List A) (ks : List Kind) → Rows s t rs ks → length rs ≡ length ks
row_count s t [] [] h = refl
row_count s t [] (k ∷ ks) h = absurd h
row_count s t (r ∷ rs) [] h = absurd h
row_count s t (r ∷ rs) (k ∷ ks) h = ap suc (row_count s t rs ks h.2)

row_at : {A : Type 0} (s : A → List ℕ) (t : A → Kind) (rs : List A) (ks : List Kind) → Rows s t rs ks → (n : ℕ) (d : A) → n < length ks → (s (get_or rs n d) ≡ spelling (get_or ks n End)) × (t (get_or rs n d) ≡ get_or ks n End)
row_at s t [] [] h n d lt = absurd (omega arith)
row_at s t [] (k ∷ ks) h n d lt = absurd h
row_at s t (r ∷ rs) [] h n d lt = absurd h
row_at s t (r ∷ rs) (k ∷ ks) h zero d lt = (h.0, h.1)
row_at s t (r ∷ rs) (k ∷ ks) h (suc n) d lt = row_at s t rs ks h.2 n d (omega arith)

-- what the first row that is spelt so says of words
pub found : {A : Type 0} (s : A → List ℕ) (t : A → Kind) (rs : List A) (w : List ℕ) (d : A) (r : Option (Bor A)) (o : Option Kind) → Rows s t rs all_words → MatchOption r (AllWithin (λ p. w ≡ s p → ⊥) rs 0 (length rs)) (λ x. (w ≡ s x.now) × (i : ℕ) × (i < length rs) × HoldsAt (λ p. p ≡ x.now) rs i × AllWithin (λ p. w ≡ s p → ⊥) rs 0 i) → MatchOption r (o ≡ None) (λ x. o ≡ Some (t x.now)) → MatchOption o ((k : Kind) → IsWord w k → ⊥) (IsWord w) × IfSome o (λ k. word_kind k ≡ true)
found s t rs w d None o rows h e = rw e (λ k is. h is.0 d (omega arith) (omega (arith, row_count s t rs all_words rows, is.1)) (is.3 ∙ ap spelling (sym is.2) ∙ sym (row_at s t rs all_words rows is.0 d is.1).0), tt)
found s t rs w d (Some x) o rows h e =
    let lt : h.1 < length all_words = omega (arith, row_count s t rs all_words rows, h.2) in
    let at = row_at s t rs all_words rows h.1 x.now lt in
    let here : get_or rs h.1 x.now ≡ x.now = h.3 x.now in
    let kind : get_or all_words h.1 End ≡ t x.now = sym at.1 ∙ ap t here in
    let is : IsWord w (t x.now) = (h.1, lt, kind, h.0 ∙ ap s (sym here) ∙ at.0 ∙ ap spelling kind) in
    rw e (is, word_kind_lem w _ is)
