-- The segmented lift of an operation: a raised flag on the right leaves out what stands on the left.
use Rattle.std.specs.Prelude.{Bool, cond, ◌||◌}

abbrev pub lifted : {M : Type 0} → (M → M → M) → Bool × M → Bool × M → Bool × M
lifted op x y = (x.0 || y.0, cond y.0 y.1 (op x.1 y.1))
