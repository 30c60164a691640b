-- Cells: one word for every value. An int or a bool is its word; a pair or a list is named by its place, where its block begins.
use Rattle.std.specs.Prelude.{ℕ, ◌+◌, Bool, cond, List, [], ◌∷◌, ◌++◌, length, take, drop, slice_index_or}
use Rattle.monoid.specs.declared.int.Int.{Int}
use Rattle.monoid.specs.Ints.{int_zero}
use Rattle.monoid.specs.Segments.{concat}
use Rattle.lang.specs.Layout.{count}
use Rattle.rules.specs.Arithmetic.{many}
use Rattle.plan.specs.declared.table.Free.{Free}

-- the word at a place; outside there are zeros
abbrev pub word : List Int → ℕ → Int
word h p = slice_index_or h p int_zero

-- the place, length or size that a word names
abbrev pub place : Int → ℕ
place w = many w.value

-- a block's first cell: one less than the size of the value
abbrev pub size_less : List Int → Int → ℕ
size_less h w = place (word h (place w))

abbrev pub size_at : List Int → Bool → Int → ℕ
size_at h b w = cond b (1 + size_less h w) 1

-- a list's second cell
abbrev pub long_at : List Int → Int → ℕ
long_at h w = place (word h (place w + 1))

-- the words of a list's elements: as many as its second cell says, and no more than its size allows
abbrev pub elements_at : List Int → Int → List Int
elements_at h w = take (long_at h w) (take (size_less h w) (drop (place w + 2) h))

-- the words of a pair's halves
abbrev pub halves_at : List Int → Int → Int × Int
halves_at h w = (word h (place w + 1), word h (place w + 2))

-- the block of a pair of size n + 1, and of a list of size n + 1
abbrev pub pair_block : ℕ → Int → Int → List Int
pair_block n u v = count n ∷ u ∷ v ∷ []

abbrev pub list_block : ℕ → List Int → List Int
list_block n ws = count n ∷ count (length ws) ∷ ws

-- the words of blocks that stand side by side from the place p on
abbrev pub words_from : ℕ → List (List Int) → List Int
words_from p [] = []
words_from p (b ∷ bs) = count p ∷ words_from (p + length b) bs

-- blocks side by side from the place p on, and after them the block of their list, whose size is n + 1
abbrev pub nested : ℕ → ℕ → List (List Int) → List Int
nested p n bs = concat bs ++ list_block n (words_from p bs)

-- the sizes of the variables of a fork
abbrev pub sizes_of : List Int → List Int → List Free → ℕ
sizes_of h e [] = 0
sizes_of h e (f ∷ fs) = size_at h f.boxed (word e f.index) + sizes_of h e fs
