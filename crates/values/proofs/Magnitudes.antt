-- Reading a numeral digit by digit.
use Rattle.std.proofs.Common.{◌≡◌, ℕ, ◌+◌, ◌-◌, ◌/◌, ◌%◌, ◌^◌, ◌<◌, ◌≤◌, List, [], ◌∷◌, ◌++◌, length, get_or, take, decimal, sym, ap, ◌∙◌, ⊎_elim, arith}
use Rattle.std.specs.Int.{IsInRange}
use Rattle.std.proofs.lemmas.Fmt.{decimal_digit, decimal_step, decimal_injective}
use Rattle.std.proofs.lemmas.List.{take_more, same_from_push, take-take, length-take-le}
use Rattle.std.proofs.lemmas.Bool.{cases_lt}
use Rattle.values.specs.Magnitudes.{Spells, ReadsMagnitude, OneDigitMore, NoDigitMore}
use Rattle.values.proofs.Decimals.{digit_in, decimal_front, one_digit, two_digits, push_digit}

module _ (limit : ℕ) (bound : limit < 2 ^ 32) (s : List ℕ) (value n : ℕ) (front : Spells limit s value n) where
  -- with the first byte that is a digit, and with one digit more
  more_is : (next : ℕ) → OneDigitMore limit s value n next → take (n + 1) s ≡ decimal next
  more_is next more = ⊎_elim
      (λ (some : 0 < n).
      take_more s n 0 more.within ∙ ap (λ p. p ++ (get_or s n 0 ∷ [])) (front.is some)
      ∙ push_digit value (get_or s n 0) (more.leads some) (omega (arith, more.is, more.small)) more.digit ∙ ap decimal (sym more.is))
      (λ (first : n ≤ 0).
      let z : n ≡ 0 = omega arith in
      let b : next ≡ get_or s n 0 - 48 = omega (arith, more.is, front.none z) in
      let byte : get_or s n 0 ≡ 48 + next = omega (arith, more.digit.0, b) in
      take_more s n 0 more.within ∙ ap (λ i. take i s ++ (get_or s n 0 ∷ [])) z ∙ ap (λ c. c ∷ []) byte
      ∙ sym (decimal_digit next (omega (arith, more.digit.1, b))))
      (cases_lt 0 n)

  pub more_spells : (next : ℕ) → OneDigitMore limit s value n next → Spells limit s next (n + 1)
  more_spells next more = record {
    within = omega (arith, more.within);
    small = more.small;
    none = λ z. absurd (omega arith);
    is = λ _. more_is next more;
  }

  -- no number up to the limit has one byte more in its numeral
  none_more : NoDigitMore limit s value n → (i : ℕ) → i ≤ limit → n < length s → take (n + 1) s ≡ decimal i → ⊥
  none_more no_more i few lt e =
      let byte = get_or s n 0 in
      let pushed : decimal i ≡ take n s ++ (byte ∷ []) = sym e ∙ take_more s n 0 lt in
      let digit : IsInRange 48 57 byte = digit_in i byte (take n s) [] (omega arith) pushed in
      ⊎_elim
      (λ (some : 0 < n).
      let long : length (decimal i) ≡ n + 1 = ap length (sym e) ∙ length-take-le (n + 1) s (omega arith) in
      let large : 10 ≤ i = two_digits i (omega arith) in
      let parts = same_from_push (decimal value) (decimal (i / 10)) byte (48 + i % 10)
      (ap (λ p. p ++ (byte ∷ [])) (sym (front.is some)) ∙ sym pushed ∙ decimal_step i large (omega arith)) in
      let same : value ≡ i / 10 = decimal_injective value (i / 10) (omega (arith, front.small)) (omega arith) parts.0 in
      let past = no_more lt digit (λ _. omega arith) in
      omega (arith, past, parts.1))
      (λ (first : n ≤ 0).
      let z : n ≡ 0 = omega arith in
      let one : decimal i ≡ byte ∷ [] = pushed ∙ ap (λ k. take k s ++ (byte ∷ [])) z in
      let small : i < 10 = one_digit i (omega arith) (omega (arith, ap length one)) in
      let parts = same_from_push [] [] byte (48 + i) (sym one ∙ decimal_digit i small) in
      let past = no_more lt digit (λ some. absurd (omega arith)) in
      omega (arith, past, parts.1, front.none z))
      (cases_lt 0 n)

  pub reads_magnitude : NoDigitMore limit s value n → ReadsMagnitude limit s value n
  reads_magnitude no_more = record {
    front = front;
    beyond = λ k m past few small e.
        let long : length (decimal m) ≡ k = ap length (sym e) ∙ length-take-le k s few in
        let f = decimal_front m (n + 1) (omega arith) (omega arith) (omega arith) in
        none_more no_more f.0 (omega (arith, f.1)) (omega arith) (sym (take-take (n + 1) k s (omega arith)) ∙ ap (take (n + 1)) e ∙ f.2);
  }
