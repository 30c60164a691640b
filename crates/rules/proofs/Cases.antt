-- The constructor of an answer, taken off.
use Rattle.std.proofs.Common.{◌≡◌}
use Rattle.rules.specs.Outcome.{Outcome, ok}

pub ok_inj : {E A : Type 0} (x y : A) → ◌≡◌ {A = Outcome E A} (ok x) (ok y) → x ≡ y
ok_inj x y h = cc
