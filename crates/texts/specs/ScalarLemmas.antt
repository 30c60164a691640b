-- The texts of ints and bools are not empty.
use Rattle.std.specs.Prelude.{◌^◌, ◌<◌, ◌≢◌, Bool, true, false, [], ℤ, pos, negsuc, length}
use Rattle.std.proofs.Common.{ap, arith}
use Rattle.std.specs.Int.Signed.{mag}
use Rattle.std.specs.Fmt.{signed_decimal}
use Rattle.std.proofs.lemmas.Fmt.{decimal_nonempty}
use Rattle.monoid.specs.declared.int.Int.{Int}
use Rattle.values.specs.Texts.{int_text}
use Rattle.texts.specs.Texts.{bool_text}

number_some : (z : ℤ) → mag z < 2 ^ 31 → signed_decimal z ≢ []
number_some (pos n) small e = omega (arith, decimal_nonempty n (omega arith), ap length e)
number_some (negsuc n) small e = omega (arith, ap length e)

pub int_some : (x : Int) → int_text x ≢ []
int_some x = number_some x.value x.ok

pub bool_some : (b : Bool) → bool_text b ≢ []
bool_some true e = omega (arith, ap length e)
bool_some false e = omega (arith, ap length e)
