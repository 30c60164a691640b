-- What digits are worth.
use Rattle.std.specs.Prelude.{ℕ, ◌+◌, ◌-◌, ◌*◌, List, fold}

-- each digit is worth ten times what stands before it and itself
abbrev pub worth : List ℕ → ℕ
worth ds = fold (λ a d. 10 * a + (d - 48)) 0 ds
