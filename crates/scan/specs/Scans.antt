-- What a scan leaves.
use Rattle.std.specs.Prelude.{◌≡◌, ℕ, ◌<◌, List, length, take, slice_index_or}
use Rattle.monoid.specs.Laws.{product}

-- at each place of ys stands the product, in order, of the elements of xs before it
pub record Scanned {M : Type 0} (unit : M) (op : M → M → M) (xs ys : List M) : Type 0 where
  pub long : length ys ≡ length xs
  pub each : (i : ℕ) → i < length xs → slice_index_or ys i unit ≡ product unit op (take i xs)
