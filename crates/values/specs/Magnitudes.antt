-- Natural numbers up to a limit, as texts of decimal digits.
use Rattle.std.specs.Prelude.{◌≡◌, ℕ, ◌+◌, ◌-◌, ◌*◌, ◌<◌, ◌≤◌, List, length, take, decimal, ◌≢◌, slice_index}
use Rattle.std.specs.Int.{IsInRange}

-- the first n bytes of s are the text of value, which is up to the limit; where there are none, value is 0
pub record Spells (limit : ℕ) (s : List ℕ) (value n : ℕ) : Type 0 where
  pub within : n ≤ length s
  pub small : value ≤ limit
  pub none : n ≡ 0 → value ≡ 0
  pub is : 0 < n → take n s ≡ decimal value

-- and no longer beginning of s is the text of a number up to the limit
pub record ReadsMagnitude (limit : ℕ) (s : List ℕ) (value n : ℕ) : Type 0 where
  pub front : Spells limit s value n
  pub beyond : (k m : ℕ) → n < k → k ≤ length s → m ≤ limit → take k s ≢ decimal m

-- with one digit more than the first n, which are worth value, the number is next
pub record OneDigitMore (limit : ℕ) (s : List ℕ) (value n next : ℕ) : Type 0 where
  pub within : n < length s
  pub digit : IsInRange 48 57 (slice_index s n)
  pub leads : 0 < n → 0 < value
  pub is : next ≡ 10 * value + (slice_index s n - 48)
  pub small : next ≤ limit

-- there is no digit more, or it follows a leading zero, or with it the number passes the limit
abbrev pub NoDigitMore : ℕ → List ℕ → ℕ → ℕ → Type 0
NoDigitMore limit s value n = n < length s → IsInRange 48 57 (slice_index s n) → (0 < n → 0 < value) → limit < 10 * value + (slice_index s n - 48)
