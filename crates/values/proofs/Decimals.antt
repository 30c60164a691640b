-- Beginnings of decimal numerals are decimal numerals.
use Rattle.std.proofs.Common.{◌≡◌, ℕ, zero, suc, ◌+◌, ◌-◌, ◌*◌, ◌/◌, ◌%◌, ◌^◌, ◌<◌, ◌≤◌, List, [], ◌∷◌, ◌++◌, length, get_or, take, Some, None, Option, IfNone, IfSome, unwrap_or, decimal, sym, refl, ap, ◌∙◌, ⊎_elim, arith, length-append}
use Rattle.std.specs.Int.{IsInRange}
use Rattle.std.proofs.lemmas.Fmt.{decimal_is_IsNumeral, decimal_digit, decimal_step, decimal_by_steps, decimal_nonempty}
use Rattle.std.proofs.lemmas.List.{get_or_at, length_push, take_all, take-append-le}
use Rattle.std.proofs.lemmas.Str.Parse.{digit_at}
use Rattle.std.proofs.lemmas.Bool.{cases_lt}
use Rattle.std.proofs.Math.Nat.{pow-succ'}

-- each byte of a numeral is a digit
pub digit_in : (n c : ℕ) (p r : List ℕ) → n < 2 ^ 64 → decimal n ≡ p ++ c ∷ r → IsInRange 48 57 c
digit_in n c p r h e =
    let long : length (decimal n) ≡ length p + suc (length r) = ap length e ∙ length-append p (c ∷ r) in
    let there : get_or (decimal n) (length p) 0 ≡ c = ap (λ ds. get_or ds (length p) 0) e ∙ get_or_at p c r 0 (length p) refl in
    rw there at (digit_at (decimal n) (length p) (decimal_is_IsNumeral n h).0.1 (omega arith))

-- some number up to n has the first k bytes of ds as its numeral
abbrev Front : ℕ → List ℕ → ℕ → Type 0
Front n ds k = (i : ℕ) × (i ≤ n) × (take k ds ≡ decimal i)

abbrev Fronts : ℕ → List ℕ → Type 0
Fronts n ds = n < 2 ^ 64 → (ds ≡ decimal n) × ((k : ℕ) → 0 < k → k ≤ length ds → Front n ds k)

fronts_one : (n : ℕ) → n < 10 → Fronts n ((48 + n) ∷ [])
fronts_one n small h =
    let is : (48 + n) ∷ [] ≡ decimal n = sym (decimal_digit n small) in
    (is, λ k some few. (n, omega arith, take_all k ((48 + n) ∷ []) (omega arith) ∙ is))

fronts_more : (n : ℕ) (ds : List ℕ) → 10 ≤ n → Fronts (n / 10) ds → Fronts n (ds ++ ((48 + n % 10) ∷ []))
fronts_more n ds large front h =
    let less : n / 10 ≤ n = omega arith in
    let shorter = front (omega arith) in
    let all = ds ++ ((48 + n % 10) ∷ []) in
    let is : all ≡ decimal n = ap (λ xs. xs ++ ((48 + n % 10) ∷ [])) shorter.0 ∙ sym (decimal_step n large h) in (
      is,
      λ k some few. ⊎_elim
          (λ (lt : k < length all).
          let in_ds : k ≤ length ds = omega (arith, length_push ds (48 + n % 10)) in
          let f = shorter.1 k some in_ds in
          (f.0, omega (arith, f.1, less), take-append-le k ds ((48 + n % 10) ∷ []) in_ds ∙ f.2))
          (λ (le : length all ≤ k). (n, omega arith, take_all k all le ∙ is))
          (cases_lt k (length all)),
    )

pub decimal_front : (n k : ℕ) → n < 2 ^ 64 → 0 < k → k ≤ length (decimal n) → Front n (decimal n) k
decimal_front n k h some few = (decimal_by_steps Fronts fronts_one fronts_more n h h).1 k some few

-- ---- how many digits
ten_some : (k : ℕ) → 0 < 10 ^ k
ten_some zero = omega arith
ten_some (suc k) = omega (arith, pow-succ' 10 k, ten_some k)

-- one more than the power of ten that the number reaches
abbrev Counts : ℕ → List ℕ → Type 0
Counts n ds = (k : ℕ) → 10 ^ k ≤ n → n < 10 * 10 ^ k → length ds ≡ k + 1

counts_one : (n : ℕ) → n < 10 → Counts n ((48 + n) ∷ [])
counts_one n small zero le lt = refl
counts_one n small (suc k) le lt = absurd (omega (arith, pow-succ' 10 k, ten_some k))

counts_more : (n : ℕ) (ds : List ℕ) → 10 ≤ n → Counts (n / 10) ds → Counts n (ds ++ ((48 + n % 10) ∷ []))
counts_more n ds large count zero le lt = absurd (omega arith)
counts_more n ds large count (suc k) le lt =
    let front : length ds ≡ k + 1 = count k (omega (arith, pow-succ' 10 k)) (omega (arith, pow-succ' 10 k)) in
    omega (arith, length_push ds (48 + n % 10))

-- by the logarithm, which a zero does not have
pub length_by_log : (n : ℕ) (log : Option ℕ) → n < 2 ^ 64 → IfNone log (n ≡ 0) → IfSome log (λ k. 10 ^ k ≤ n) → IfSome log (λ k. n < 10 * 10 ^ k) → length (decimal n) ≡ unwrap_or log 0 + 1
length_by_log n None h none le lt = ap (λ m. length (decimal m)) none ∙ ap length (decimal_digit 0 (omega arith))
length_by_log n (Some k) h none le lt = decimal_by_steps Counts counts_one counts_more n h k le lt

-- the numeral of a number of two digits and more
pub two_digits : (n : ℕ) → 1 < length (decimal n) → 10 ≤ n
two_digits n long = ⊎_elim
    (λ (small : n < 10). absurd (omega (arith, ap length (decimal_digit n small))))
    (λ (large : 10 ≤ n). large)
    (cases_lt n 10)

pub one_digit : (n : ℕ) → n < 2 ^ 64 → length (decimal n) ≤ 1 → n < 10
one_digit n h short = ⊎_elim
    (λ (small : n < 10). small)
    (λ (large : 10 ≤ n).
    let long : length (decimal n) ≡ length (decimal (n / 10)) + 1 = ap length (decimal_step n large h) ∙ length_push (decimal (n / 10)) (48 + n % 10) in
    absurd (omega (arith, decimal_nonempty (n / 10) (omega arith))))
    (cases_lt n 10)

-- a digit behind a number
pub push_digit : (value b : ℕ) → 0 < value → 10 * value + (b - 48) < 2 ^ 64 → IsInRange 48 57 b → decimal value ++ (b ∷ []) ≡ decimal (10 * value + (b - 48))
push_digit value b some fits digit =
    let n = 10 * value + (b - 48) in
    let front : n / 10 ≡ value = omega arith in
    let last : 48 + n % 10 ≡ b = omega arith in
    sym (decimal_step n (omega arith) fits ∙ ap (λ v. decimal v ++ ((48 + n % 10) ∷ [])) front ∙ ap (λ c. decimal value ++ (c ∷ [])) last)
