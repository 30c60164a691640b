-- Cells stored one after the other.
use Rattle.std.proofs.Common.{◌≡◌, ℕ, suc, ◌+◌, ◌<◌, ◌≢◌, List, [], ◌∷◌, ◌++◌, length, set, refl, ap, ◌∙◌, add-one, arith}
use lib.Seq.{sets}
use Rattle.std.proofs.lemmas.List.{set_comm}

pub sets_append : {A : Type 0} (xs ys l : List A) (i : ℕ) → sets l i (xs ++ ys) ≡ sets (sets l i xs) (i + length xs) ys
sets_append [] ys l i = let so : i ≡ i + 0 = omega arith in ap (λ k. sets l k ys) so
sets_append (x ∷ xs) ys l i = let so : suc i + length xs ≡ i + suc (length xs) = omega arith in sets_append xs ys (set l i x) (suc i) ∙ ap
    (λ k. sets (sets (set l i x) (suc i) xs) k ys) so

-- a cell before them may be set later
pub set_before : {A : Type 0} (xs l : List A) (i j : ℕ) (a : A) → i < j → set (sets l j xs) i a ≡ sets (set l i a) j xs
set_before [] l i j a less = refl
set_before (x ∷ xs) l i j a less =
    let ne : j ≢ i = omega arith in
    set_before xs (set l j x) i (suc j) a (omega arith) ∙ ap (λ k. sets k (suc j) xs) (set_comm l j i x a ne)

pub set_first : {A : Type 0} (xs l : List A) (i : ℕ) (a : A) → set (sets l (i + 1) xs) i a ≡ sets l i (a ∷ xs)
set_first xs l i a = set_before xs l i (i + 1) a (omega arith) ∙ ap (λ k. sets (set l i a) k xs) (add-one i)
