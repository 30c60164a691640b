-- The language's ints: their width, and the arithmetic that wraps to it.
use Rattle.std.specs.Prelude.{◌-◌, ◌^◌, Bool, false, cond, List, [], ◌∷◌, ℤ, pos, negsuc, ◌+ℤ◌, ◌*ℤ◌, ◌==◌, bit_or, int_lt}
use Rattle.std.proofs.Common.{lit<}
use mir.Val.{hbits, of_z}
use Rattle.std.specs.Int.{int_wrap, Width, w32}
use Rattle.std.proofs.lemmas.Int.{SFits-int_wrap}
use Rattle.monoid.specs.declared.int.Int.{Int}

abbrev pub width : Width
width = w32

-- the int that z wraps to
abbrev pub int_of : ℤ → Int
int_of z = record { value = int_wrap width z; ok = (SFits-int_wrap width z).sfits }

abbrev pub int_zero : Int
int_zero = record { value = pos 0; ok = lit< tt }

abbrev pub int_one : Int
int_one = record { value = pos 1; ok = lit< tt }

-- a truth value as an int
abbrev pub flag : Bool → Int
flag b = cond b int_one int_zero

-- the lowest int
abbrev pub int_least : Int
int_least = record { value = negsuc (2 ^ hbits width - 1); ok = lit< tt }

abbrev pub int_sum : Int → Int → Int
int_sum x y = int_of (x.value +ℤ y.value)

abbrev pub int_product : Int → Int → Int
int_product x y = int_of (x.value *ℤ y.value)

-- the or of the bits
abbrev pub int_or : Int → Int → Int
int_or x y = int_of (pos (bit_or (of_z width x.value) (of_z width y.value)))

abbrev pub larger : Int → Int → Int
larger x y = cond (int_lt x.value y.value) y x

abbrev pub zero_number : ℤ → Bool
zero_number (pos n) = n == 0
zero_number (negsuc n) = false

abbrev pub is_zero : Int → Bool
is_zero x = zero_number x.value

-- the right one unless it is 0
abbrev pub later : Int → Int → Int
later x y = cond (is_zero y) x y

-- the sum of all, exact
abbrev pub exact_sum : List Int → ℤ
exact_sum [] = pos 0
exact_sum (x ∷ xs) = x.value +ℤ exact_sum xs

-- the sum of all, wrapped once
abbrev pub wrapped_sum : List Int → Int
wrapped_sum xs = int_of (exact_sum xs)
