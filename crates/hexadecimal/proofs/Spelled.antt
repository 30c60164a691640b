-- Bytes are read back from the text that spells them.
use Rattle.std.proofs.Common.{◌≡◌, ℕ, ◌+◌, ◌*◌, ◌/◌, ◌%◌, ◌<◌, ◌==◌, suc, true, List, [], ◌∷◌, length, map, slice_index, if◌then◌else◌, unwrap_or, refl, arith, eqb-true}
use Rattle.std.proofs.lemmas.Bool.{agree_below_at}
use Rattle.std.specs.Char.{is_ascii_uppercase}
use Rattle.std.specs.Simd.{first_chunks}
use Rattle.hex.specs.Hex.{IsBytes, encode_lower, encode_with, hex_digit_value, lower_digits}
use Rattle.hex.proofs.HexLemmas.{length-encode_with}

-- what a byte counts as a digit, and two of them
abbrev digit_value : ℕ → ℕ
digit_value c = if is_ascii_uppercase c then 0 else unwrap_or (hex_digit_value c) 0

abbrev pub pair_value : List ℕ → ℕ
pair_value pair = 16 * digit_value (slice_index pair 0) + digit_value (slice_index pair 1)

digit_value-lower : (d : ℕ) → d < 16 → digit_value (slice_index lower_digits d) ≡ d
digit_value-lower d small =
    eqb-true (digit_value (slice_index lower_digits d)) d
    (agree_below_at (λ k. digit_value (slice_index lower_digits k) == k) (λ _. true) 16 d refl small)

map-first_chunks : (bytes : List ℕ) → IsBytes bytes → map pair_value (first_chunks 2 (length bytes) (encode_lower bytes)) ≡ bytes
unfolding encode_with
map-first_chunks [] small = refl
map-first_chunks (b ∷ rest) small =
    let fits : b < 256 = small 0 in
    let high = digit_value-lower (b / 16) (omega arith) in
    let low = digit_value-lower (b % 16) (omega arith) in
    let whole : 16 * (b / 16) + b % 16 ≡ b = omega arith in
    let others = map-first_chunks rest (λ i. small (suc i)) in
    rw (high, low, whole, others) refl

pub map-spelled : (text bytes : List ℕ) → IsBytes bytes → text ≡ encode_lower bytes → map pair_value (first_chunks 2 (length text / 2) text) ≡ bytes
map-spelled text bytes small is =
    let len = length-encode_with lower_digits bytes in
    let half : length text / 2 ≡ length bytes = rw is (omega (arith, len)) in
    rw (half, is) (map-first_chunks bytes small)
