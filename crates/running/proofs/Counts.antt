-- Numbers as words.
use Rattle.std.proofs.Common.{◌≡◌, ℕ, suc, ◌<◌, false, pos, ap, ◌∙◌}
use lib.Dec.{eqb-suc-zero}
use Rattle.std.proofs.lemmas.Int.{int_wrap_fits}
use Rattle.monoid.specs.declared.int.Int.{Int}
use Rattle.monoid.specs.Ints.{width, int_zero, zero_number, is_zero}
use Rattle.monoid.specs.IntsLemmas.{same_int, fits}
use Rattle.lang.specs.Layout.{count}
use Rattle.rules.specs.Arithmetic.{many}
use Rattle.running.specs.Cells.{place}
use Rattle.running.specs.Words.{limit}

count_value : (n : ℕ) → n < limit → (count n).value ≡ pos n
count_value n l = int_wrap_fits width (pos n) (record { sfits = l })

pub place-count : (n : ℕ) → n < limit → place (count n) ≡ n
place-count n l = ap many (count_value n l)

pub place_of : (w : Int) (p : ℕ) → w ≡ count p → p < limit → place w ≡ p
place_of w p e l = ap place e ∙ place-count p l

pub count_none : count 0 ≡ int_zero
count_none = same_int _ _ (int_wrap_fits width (pos 0) (fits int_zero))

pub some_count : (n : ℕ) → suc n < limit → is_zero (count (suc n)) ≡ false
some_count n l = ap zero_number (count_value (suc n) l) ∙ eqb-suc-zero n
