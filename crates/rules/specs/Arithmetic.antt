-- What the infix signs do to ints: differences and quotients wrap as sums and products do.
use Rattle.std.specs.Prelude.{ℕ, Bool, false, not, ℤ, pos, negsuc, ◌-ℤ◌, Some, None, Option as Maybe, ◌==◌, int_div, int_lt, int_rem}
use Rattle.std.proofs.Math.Option.{Option, none, some}
use Rattle.monoid.specs.declared.int.Int.{Int}
use Rattle.monoid.specs.Ints.{int_of, int_sum, int_product, is_zero}
use Rattle.grammar.specs.declared.occurrence.Infix.{Infix}
use Rattle.grammar.specs.declared.occurrence.Infix.TheVariants.{Add, Subtract, Multiply, Divide, Remainder, Same, Less}
use Rattle.lang.specs.Values.{Val}
use Rattle.lang.specs.Expr.{answers}
use Rattle.rules.specs.Lists.{given}

abbrev pub int_difference : Int → Int → Int
int_difference x y = int_of (x.value -ℤ y.value)

-- rounded towards zero; the lowest int divided by -1 wraps to itself
abbrev pub int_quotient : Int → Int → Int
int_quotient x y = int_of (int_div x.value y.value)

-- with the dividend's sign
abbrev pub int_remainder : Int → Int → Int
int_remainder x y = int_of (int_rem x.value y.value)

abbrev pub same_number : ℤ → ℤ → Bool
same_number (pos a) (pos b) = a == b
same_number (pos a) (negsuc b) = false
same_number (negsuc a) (pos b) = false
same_number (negsuc a) (negsuc b) = a == b

abbrev pub int_same : Int → Int → Bool
int_same x y = same_number x.value y.value

abbrev pub int_less : Int → Int → Bool
int_less x y = int_lt x.value y.value

-- unless y is 0
abbrev pub divided : (Int → Int → Int) → Int → Int → Option Int
divided f x y = given (not (is_zero y)) (f x y)

abbrev pub infix_of : (o : Infix) → Int → Int → Option (Val (answers o))
infix_of Add x y = some (int_sum x y)
infix_of Subtract x y = some (int_difference x y)
infix_of Multiply x y = some (int_product x y)
infix_of Divide x y = divided int_quotient x y
infix_of Remainder x y = divided int_remainder x y
infix_of Same x y = some (int_same x y)
infix_of Less x y = some (int_less x y)

-- an int as a number of things: none if it is negative
abbrev pub many : ℤ → ℕ
many (pos n) = n
many (negsuc n) = 0

-- the same as an answer of code
abbrev pub told : {A : Type 0} → Option A → Maybe A
told none = None
told (some a) = Some a
