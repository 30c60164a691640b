-- Reading the text of an int, from reading its magnitude.
use Rattle.std.proofs.Common.{◌≡◌, ℕ, zero, suc, ◌+◌, ◌-◌, ◌^◌, ◌<◌, ◌≤◌, List, [], ◌∷◌, ◌++◌, length, get_or, take, ℤ, pos, negsuc, decimal, sym, refl, ap, ◌∙◌, ⊎_elim, add-one, arith, lit<, length-append, length-take}
use lib.Signed.{mag}
use mir.Val.{hbits}
use Rattle.std.specs.Int.{IsInRange}
use Rattle.std.specs.Fmt.{signed_decimal}
use Rattle.std.proofs.lemmas.Fmt.{decimal_nonempty, decimal_digit, first_decimal, signed_decimal_injective}
use Rattle.std.proofs.lemmas.List.{take_at, get_or-take, get_or_append_left, length-take-le}
use Rattle.std.proofs.lemmas.Bool.{cases_lt}
use Rattle.monoid.specs.declared.int.Int.{Int}
use Rattle.monoid.specs.Ints.{width, int_zero}
use Rattle.values.specs.Magnitudes.{ReadsMagnitude}
use Rattle.values.specs.Reading.{Begins, ReadsFront, StopsAt}
use Rattle.values.specs.Texts.{int_text}
use Rattle.values.proofs.Decimals.{digit_in, decimal_front}
use Rattle.monoid.specs.IntsLemmas.{same_int}
use Rattle.values.proofs.Fronts.{whole_begins, whole_within, read_front}
use Rattle.values.proofs.Separate.{Separate, same_head, same_tail}

-- ---- numerals
-- a longer beginning of s than was read begins no numeral up to the limit
longer : (limit : ℕ) (s : List ℕ) (value n j k : ℕ) (r : List ℕ) → limit < 2 ^ 32 → ReadsMagnitude limit s value n → j ≤ limit → n < k → k ≤ length s → decimal j ≡ take k s ++ r → ⊥
longer limit s value n j k r bound reads small past within e =
    let long : length (take k s) ≡ k = length-take-le k s within in
    let f = decimal_front j k (omega arith) (omega arith) (omega (arith, ap length e, length-append (take k s) r)) in
    reads.beyond k f.0 past within (omega (arith, f.1)) (sym (take_at (take k s) r k long) ∙ ap (take k) (sym e) ∙ f.2)

no_minus : (n : ℕ) (r : List ℕ) → n < 2 ^ 64 → decimal n ≡ 45 ∷ r → ⊥
no_minus n r h e = let d = digit_in n 45 [] r h e in omega (arith, d.0)

-- ---- no minus sign
module _ (s : List ℕ) (plain : get_or s 0 0 ≡ 45 → ⊥) (value n : ℕ) (reads : ReadsMagnitude (2 ^ hbits width - 1) s value n) where
  plain_beyond : (z : ℤ) → mag z < 2 ^ hbits width → (k : ℕ) (r : List ℕ) → n < k → k ≤ length s → signed_decimal z ≡ take k s ++ r → ⊥
  plain_beyond (pos j) small k r past within e = longer (2 ^ hbits width - 1) s value n j k r (omega arith) reads (omega arith) past within e
  plain_beyond (negsuc j) small k r past within e = first s k plain (omega arith) within e
    where
      first : (s : List ℕ) (k : ℕ) → (get_or s 0 0 ≡ 45 → ⊥) → 0 < k → k ≤ length s → 45 ∷ decimal (suc j) ≡ take k s ++ r → ⊥
      first s zero no-45 some within e = absurd (omega arith)
      first [] (suc k) no-45 some within e = absurd (omega arith)
      first (b ∷ s) (suc k) no-45 some within e = no-45 (sym (ap (λ xs. get_or xs 0 0) e))

  plain_past : (k : ℕ) → n < k → k ≤ length s → Begins int_text (take k s) → ⊥
  plain_past k past within b = plain_beyond b.value.value b.value.ok k b.rest past within b.is

  pub plain_reads : (x : Int) → 0 < n → x.value ≡ pos value → ReadsFront int_text s x n
  plain_reads x some e = read_front int_text s x n reads.front.within (reads.front.is some ∙ sym (ap signed_decimal e)) plain_past

  pub plain_stops : n ≡ 0 → StopsAt int_text s 0
  plain_stops z = record {
    none = λ x k e. plain_past (length (int_text x)) (some x.value x.ok) (whole_within int_text s x k e) (whole_begins int_text s x k e);
    longest = record { within = omega arith; begins = record { value = int_zero; rest = decimal 0; is = refl }; beyond = λ k past. plain_past k (omega arith) };
  }
    where
      some : (y : ℤ) → mag y < 2 ^ hbits width → n < length (signed_decimal y)
      some (pos j) small = omega (arith, decimal_nonempty j (omega arith))
      some (negsuc j) small = omega arith

-- ---- after a minus sign
pub some_byte : (s : List ℕ) → get_or s 0 0 ≡ 45 → 0 < length s
some_byte [] e = absurd (omega arith)
some_byte (b ∷ s) e = omega arith

module _ (t : List ℕ) (value n : ℕ) (reads : ReadsMagnitude (2 ^ hbits width) t value n) where
  minus_beyond : (z : ℤ) → mag z < 2 ^ hbits width → (k : ℕ) (r : List ℕ) → n < k → k ≤ length t → signed_decimal z ≡ 45 ∷ (take k t ++ r) → ⊥
  minus_beyond (pos j) small k r past within e = no_minus j (take k t ++ r) (omega arith) e
  minus_beyond (negsuc j) small k r past within e = longer (2 ^ hbits width) t value n (suc j) k r (omega arith) reads (omega arith) past within (same_tail e)

  minus_past : (k : ℕ) → n + 1 < k → k ≤ length (45 ∷ t) → Begins int_text (take k (45 ∷ t)) → ⊥
  minus_past zero past within b = absurd (omega arith)
  minus_past (suc k) past within b = minus_beyond b.value.value b.value.ok k b.rest (omega arith) (omega arith) b.is

  pub minus_reads : (x : Int) → 0 < value → x.value ≡ negsuc (value - 1) → ReadsFront int_text (45 ∷ t) x (n + 1)
  minus_reads x some e =
      let long : 0 < n = ⊎_elim (λ (l : 0 < n). l) (λ (l : n ≤ 0). absurd (omega (arith, reads.front.none (omega arith)))) (cases_lt 0 n) in
      let next : suc (value - 1) ≡ value = omega arith in
      read_front int_text (45 ∷ t) x (n + 1) (omega (arith, reads.front.within))
      (ap (λ i. take i (45 ∷ t)) (add-one n) ∙ ap (λ xs. 45 ∷ xs) (reads.front.is long ∙ ap decimal (sym next)) ∙ sym (ap signed_decimal e))
      minus_past

  -- a zero behind the sign
  zero_behind : value ≡ 0 → 0 < n → (j : ℕ) → j < 2 ^ 32 → (k : ℕ) (r : List ℕ) → 0 < k → decimal (suc j) ≡ take k t ++ r → ⊥
  zero_behind z some j h k r more e =
      let long : 0 < length t = omega (arith, reads.front.within) in
      let front : get_or t 0 0 ≡ 48 = sym (get_or-take n t 0 0 some) ∙ ap (λ ds. get_or ds 0 0) (reads.front.is some ∙ ap decimal z ∙ decimal_digit 0 (omega arith)) in
      let first : get_or (decimal (suc j)) 0 0 ≡ 48 =
      ap (λ ds. get_or ds 0 0) e ∙ get_or_append_left (take k t) r 0 0 (omega (arith, length-take k t)) ∙ get_or-take k t 0 0 more ∙ front in
      omega (arith, first_decimal (suc j) (omega arith) (omega arith), first)

  stop_past : value ≡ 0 → (k : ℕ) → 1 < k → k ≤ length (45 ∷ t) → Begins int_text (take k (45 ∷ t)) → ⊥
  stop_past z k past within b = ⊎_elim
      (λ (some : 0 < n). behind some k past b.value.value b.value.ok b.is)
      (λ (l : n ≤ 0). minus_past k (omega arith) within b)
      (cases_lt 0 n)
    where
      behind : 0 < n → (k : ℕ) → 1 < k → (y : ℤ) → mag y < 2 ^ hbits width → signed_decimal y ≡ take k (45 ∷ t) ++ b.rest → ⊥
      behind some zero past y small e = absurd (omega arith)
      behind some (suc k) past (pos j) small e = no_minus j (take k t ++ b.rest) (omega arith) e
      behind some (suc k) past (negsuc j) small e = zero_behind z some j (omega arith) k b.rest (omega arith) (same_tail e)

  pub minus_stops : value ≡ 0 → StopsAt int_text (45 ∷ t) 1
  minus_stops z = record {
    none = λ x k e. none x.value x.ok x k refl e;
    longest = record { within = omega arith; begins = record { value = int_minus; rest = decimal 1; is = refl }; beyond = stop_past z };
  }
    where
      int_minus : Int
      int_minus = record { value = negsuc 0; ok = lit< tt }

      none : (y : ℤ) → mag y < 2 ^ hbits width → (x : Int) (k : ℕ) → x.value ≡ y → take k (45 ∷ t) ≡ int_text x → ⊥
      none (pos j) small x zero is e = absurd (omega (arith, decimal_nonempty j (omega arith), ap length (e ∙ ap signed_decimal is)))
      none (pos j) small x (suc k) is e = no_minus j (take k t) (omega arith) (sym (e ∙ ap signed_decimal is))
      none (negsuc j) small x k is e =
          let long : 1 < length (int_text x) = omega (arith, ap (λ v. length (signed_decimal v)) is, decimal_nonempty (suc j) (omega arith)) in
          stop_past z (length (int_text x)) long (whole_within int_text (45 ∷ t) x k e) (whole_begins int_text (45 ∷ t) x k e)

-- ---- texts of ints one behind the other
text_some : (z : ℤ) → mag z < 2 ^ hbits width → signed_decimal z ≡ [] → ⊥
text_some (pos j) small e = omega (arith, decimal_nonempty j (omega arith), ap length e)
text_some (negsuc j) small e = omega (arith, ap length e)

text_opens : (z : ℤ) (r : List ℕ) → mag z < 2 ^ hbits width → signed_decimal z ≡ 93 ∷ r → ⊥
text_opens (pos j) r small e = let d = digit_in j 93 [] r (omega arith) e in omega (arith, d.1)
text_opens (negsuc j) r small e = let z : ◌≡◌ {A = ℕ} 45 93 = same_head e in omega (arith, z)

text_goes_on : (y z : ℤ) (c : ℕ) (r : List ℕ) → mag y < 2 ^ hbits width → mag z < 2 ^ hbits width → signed_decimal y ≡ signed_decimal z ++ c ∷ r → IsInRange 48 57 c
text_goes_on (pos i) (pos j) c r p q e = digit_in i c (decimal j) r (omega arith) e
text_goes_on (pos i) (negsuc j) c r p q e = absurd (no_minus i (decimal (suc j) ++ c ∷ r) (omega arith) e)
text_goes_on (negsuc i) (pos j) c r p q e = absurd (by (decimal j) refl e)
  where
    by : (ds : List ℕ) → decimal j ≡ ds → 45 ∷ decimal (suc i) ≡ ds ++ c ∷ r → ⊥
    by [] is f = omega (arith, decimal_nonempty j (omega arith), ap length is)
    by (d ∷ ds) is f = no_minus j ds (omega arith) (is ∙ ap (λ b. b ∷ ds) (sym (same_head f)))
text_goes_on (negsuc i) (negsuc j) c r p q e = digit_in (suc i) c (decimal (suc j)) r (omega arith) (same_tail e)

pub int_separate : Separate int_text
int_separate = record {
  some = λ x. text_some x.value x.ok;
  opens = λ x r. text_opens x.value r x.ok;
  goes_on = λ x y c r. text_goes_on x.value y.value c r x.ok y.ok;
}

pub same_text_int : (x y : Int) → int_text x ≡ int_text y → x ≡ y
same_text_int x y e = same_int x y (signed_decimal_injective x.value y.value (omega (arith, x.ok)) (omega (arith, y.ok)) e)
