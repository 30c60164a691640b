-- The texts of values: ints and lists, without blanks.
use Rattle.std.specs.Prelude.{ℕ, List, [], ◌∷◌, ◌++◌}
use Rattle.std.specs.Fmt.{signed_decimal}
use Rattle.monoid.specs.declared.int.Int.{Int}

-- decimal digits with no leading zero, after a minus sign if the number is negative
abbrev pub int_text : Int → List ℕ
int_text x = signed_decimal x.value

module _ {X : Type 0} (text : X → List ℕ) where
  -- what stands after an element of a list: a comma and the elements after it, or the bracket
  abbrev pub more_text : List X → List ℕ
  more_text [] = 93 ∷ []
  more_text (x ∷ xs) = 44 ∷ (text x ++ more_text xs)

  -- the elements in square brackets, with commas between
  abbrev pub list_text : List X → List ℕ
  list_text [] = 91 ∷ 93 ∷ []
  list_text (x ∷ xs) = 91 ∷ (text x ++ more_text xs)

abbrev pub row_text : List Int → List ℕ
row_text row = list_text int_text row

abbrev pub rows_text : List (List Int) → List ℕ
rows_text rows = list_text row_text rows
