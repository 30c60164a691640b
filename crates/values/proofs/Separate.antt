-- Texts that can be told apart where they stand one behind the other.
use Rattle.std.proofs.Common.{◌≡◌, ℕ, ◌<◌, ◌≤◌, ◌⊎◌, List, [], ◌∷◌, ◌++◌, length, take, drop, sym, refl, ap, subst, ◌∙◌, ap₂, inl, inr, ⊎_elim, append_assoc, arith, length-drop, take-append-drop}
use Rattle.std.specs.Int.{IsInRange}
use Rattle.std.proofs.lemmas.List.{take-take, length-take-le}
pub use Rattle.values.specs.Lists.{Separate}
use Rattle.values.specs.Reading.{Begins, ReadsFront}
use Rattle.values.specs.Texts.{more_text, list_text}
use Rattle.values.proofs.Fronts.{read_front}

-- and some texts go on to no other at all
abbrev pub PrefixFree : {X : Type 0} → (X → List ℕ) → Type 0
PrefixFree {X} text = (x y : X) (c : ℕ) (r : List ℕ) → text x ≡ text y ++ c ∷ r → ⊥

pub same_head : {a b : ℕ} {xs ys : List ℕ} → a ∷ xs ≡ b ∷ ys → a ≡ b
same_head e = cc

pub same_tail : {a b : ℕ} {xs ys : List ℕ} → a ∷ xs ≡ b ∷ ys → xs ≡ ys
same_tail e = cc

-- two lists of two parts each that are the same: the first parts are, or one goes on into the second part of the other
pub data Cut (xs us ys bs : List ℕ) : Type 0 where
  even : xs ≡ ys → us ≡ bs → Cut xs us ys bs
  left_short : (c : ℕ) (r : List ℕ) → ys ≡ xs ++ (c ∷ r) → us ≡ (c ∷ r) ++ bs → Cut xs us ys bs
  right_short : (c : ℕ) (r : List ℕ) → xs ≡ ys ++ (c ∷ r) → bs ≡ (c ∷ r) ++ us → Cut xs us ys bs

pub cut_both : (xs us ys bs : List ℕ) → xs ++ us ≡ ys ++ bs → Cut xs us ys bs
cut_both [] us [] bs e = even refl e
cut_both [] us (y ∷ ys) bs e = left_short y ys refl e
cut_both (x ∷ xs) us [] bs e = right_short x xs refl (sym e)
cut_both (x ∷ xs) us (y ∷ ys) bs e = grow (cut_both xs us ys bs (same_tail e))
  where
    grow : Cut xs us ys bs → Cut (x ∷ xs) us (y ∷ ys) bs
    grow (even p q) = even (cc) q
    grow (left_short c r p q) = left_short c r (cc) q
    grow (right_short c r p q) = right_short c r (cc) q

abbrev pub NoDigit : ℕ → Type 0
NoDigit c = IsInRange 48 57 c → ⊥

-- what stands behind an element
abbrev pub IsSign : ℕ → Type 0
IsSign c = (c ≡ 44) ⊎ (c ≡ 93)

pub no_digit : (c : ℕ) → IsSign c → NoDigit c
no_digit c sign d = ⊎_elim (λ (e : c ≡ 44). omega (arith, d.0)) (λ (e : c ≡ 93). omega (arith, d.1)) sign

pub more_sign : {X : Type 0} (text : X → List ℕ) (xs : List X) → (c : ℕ) × (r : List ℕ) × IsSign c × (more_text text xs ≡ c ∷ r)
more_sign text [] = (93, [], inr refl, refl)
more_sign text (x ∷ xs) = (44, text x ++ more_text text xs, inl refl, refl)

module _ {X : Type 0} (text : X → List ℕ) (separate : Separate text) where
  pub split : (u v : X) (a b : ℕ) (us bs : List ℕ) → NoDigit a → NoDigit b → text u ++ a ∷ us ≡ text v ++ b ∷ bs → (text u ≡ text v) × (a ∷ us ≡ b ∷ bs)
  split u v a b us bs p q e = by (cut_both (text u) (a ∷ us) (text v) (b ∷ bs) e)
    where
      by : Cut (text u) (a ∷ us) (text v) (b ∷ bs) → (text u ≡ text v) × (a ∷ us ≡ b ∷ bs)
      by (even s t) = (s, t)
      by (left_short c r s t) = absurd (p (subst (IsInRange 48 57) (sym (same_head t)) (separate.goes_on v u c r s)))
      by (right_short c r s t) = absurd (q (subst (IsInRange 48 57) (sym (same_head t)) (separate.goes_on u v c r s)))

  pub no_bracket : (v : X) (r t : List ℕ) → 93 ∷ r ≡ text v ++ t → ⊥
  no_bracket v r t e = by (text v) refl e
    where
      by : (ts : List ℕ) → text v ≡ ts → 93 ∷ r ≡ ts ++ t → ⊥
      by [] is f = separate.some v is
      by (b ∷ ts) is f = separate.opens v ts (is ∙ ap (λ c. c ∷ ts) (sym (same_head f)))

  -- what stands behind an element does not go on
  more_free : (us vs : List X) (c : ℕ) (r : List ℕ) → more_text text us ≡ more_text text vs ++ c ∷ r → ⊥
  more_free [] [] c r e = let z : ◌≡◌ {A = List ℕ} [] (c ∷ r) = same_tail e in omega (arith, ap length z)
  more_free [] (v ∷ vs) c r e = let z : ◌≡◌ {A = ℕ} 93 44 = same_head e in omega (arith, z)
  more_free (u ∷ us) [] c r e = let z : ◌≡◌ {A = ℕ} 44 93 = same_head e in omega (arith, z)
  more_free (u ∷ us) (v ∷ vs) c r e =
      let p = more_sign text us in
      let q = more_sign text vs in
      let both : text u ++ (p.0 ∷ p.1) ≡ text v ++ (q.0 ∷ (q.1 ++ c ∷ r)) =
      ap (λ zs. text u ++ zs) (sym p.3) ∙ same_tail e ∙ append_assoc (text v) (more_text text vs) (c ∷ r) ∙ ap (λ zs. text v ++ (zs ++ c ∷ r)) q.3 in
      let parts = split u v p.0 q.0 p.1 (q.1 ++ c ∷ r) (no_digit p.0 p.2) (no_digit q.0 q.2) both in
      more_free us vs c r (p.3 ∙ parts.1 ∙ ap (λ zs. zs ++ c ∷ r) (sym q.3))

  pub list_free : PrefixFree (list_text text)
  list_free [] [] c r e = let z : ◌≡◌ {A = List ℕ} [] (c ∷ r) = same_tail (same_tail e) in omega (arith, ap length z)
  list_free [] (v ∷ vs) c r e = no_bracket v [] (more_text text vs ++ c ∷ r) (same_tail e ∙ append_assoc (text v) (more_text text vs) (c ∷ r))
  list_free (u ∷ us) [] c r e = no_bracket u (c ∷ r) (more_text text us) (sym (same_tail e))
  list_free (u ∷ us) (v ∷ vs) c r e = more_free (u ∷ us) (v ∷ vs) c r (ap (λ zs. 44 ∷ zs) (same_tail e))

  pub list_separate : Separate (list_text text)
  list_separate = record {
    some = λ xs. never xs;
    opens = λ xs r. opening xs r;
    goes_on = λ xs ys c r e. absurd (list_free xs ys c r e);
  }
    where
      never : (xs : List X) → list_text text xs ≡ [] → ⊥
      never [] e = omega (arith, ap length e)
      never (x ∷ xs) e = omega (arith, ap length e)

      opening : (xs : List X) (r : List ℕ) → list_text text xs ≡ 93 ∷ r → ⊥
      opening [] r e = let z : ◌≡◌ {A = ℕ} 91 93 = same_head e in omega (arith, z)
      opening (x ∷ xs) r e = let z : ◌≡◌ {A = ℕ} 91 93 = same_head e in omega (arith, z)

-- where texts go on to no other, a text at the front is the longest beginning
pub free_reads : {X : Type 0} (text : X → List ℕ) → PrefixFree text → (s : List ℕ) (x : X) (n : ℕ) → n ≤ length s → take n s ≡ text x → ReadsFront text s x n
free_reads text free s x n within e = read_front text s x n within e past
  where
    past : (k : ℕ) → n < k → k ≤ length s → Begins text (take k s) → ⊥
    past k more fits b =
        let front : take n (take k s) ≡ text x = take-take n k s (omega arith) ∙ e in
        let long : 0 < length (drop n (take k s)) = rw (length-drop n (take k s)) (rw (length-take-le k s fits) (omega arith)) in
        goes (drop n (take k s)) long
        (b.is ∙ ap (λ zs. zs ++ b.rest) (sym (take-append-drop n (take k s)) ∙ ap (λ zs. zs ++ drop n (take k s)) front))
      where
        goes : (zs : List ℕ) → 0 < length zs → text b.value ≡ (text x ++ zs) ++ b.rest → ⊥
        goes [] h f = absurd (omega arith)
        goes (z ∷ zs) h f = free b.value x z (zs ++ b.rest) (f ∙ append_assoc (text x) (z ∷ zs) b.rest)

-- a text has one value
abbrev pub Injective : {X : Type 0} → (X → List ℕ) → Type 0
Injective {X} text = (x y : X) → text x ≡ text y → x ≡ y

module _ {X : Type 0} (text : X → List ℕ) (separate : Separate text) (same : Injective text) where
  more_same : Injective (more_text text)
  more_same [] [] e = refl
  more_same [] (v ∷ vs) e = absurd (let z : ◌≡◌ {A = ℕ} 93 44 = same_head e in omega (arith, z))
  more_same (u ∷ us) [] e = absurd (let z : ◌≡◌ {A = ℕ} 44 93 = same_head e in omega (arith, z))
  more_same (u ∷ us) (v ∷ vs) e =
      let p = more_sign text us in
      let q = more_sign text vs in
      let parts = split text separate u v p.0 q.0 p.1 q.1 (no_digit p.0 p.2) (no_digit q.0 q.2) (ap (λ t. text u ++ t) (sym p.3) ∙ same_tail e ∙ ap (λ t. text v ++ t) q.3) in
      ap₂ (λ (x : X) (xs : List X). x ∷ xs) (same u v parts.0) (more_same us vs (p.3 ∙ parts.1 ∙ sym q.3))

  pub list_same : Injective (list_text text)
  list_same [] [] e = refl
  list_same [] (v ∷ vs) e = absurd (no_bracket text separate v [] (more_text text vs) (same_tail e))
  list_same (u ∷ us) [] e = absurd (no_bracket text separate u [] (more_text text us) (sym (same_tail e)))
  list_same (u ∷ us) (v ∷ vs) e = more_same (u ∷ us) (v ∷ vs) (ap (λ t. 44 ∷ t) (same_tail e))
