-- The longest beginning that a text and a word have in common.
use Rattle.std.specs.Prelude.{◌≡◌, ℕ, ◌<◌, ◌≤◌, List, length, slice_index, ◌≢◌}

pub record Common (word s : List ℕ) (n : ℕ) : Type 0 where
  pub within : n ≤ length s
  pub inside : n ≤ length word
  pub same : (k : ℕ) → k < n → slice_index s k ≡ slice_index word k
  pub beyond : n < length s → n < length word → slice_index s n ≢ slice_index word n
