-- The loop over the flags of the variables in scope, and numbers as ints.
use Rattle.std.proofs.Common.{◌≡◌, ℕ, ◌^◌, ◌<◌, ◌⊎◌, Bool, List, [], ◌∷◌, ◌++◌, reverse, length, ℤ, pos, sym, refl, ap, ◌∙◌, inl, inr, arith, to_z, of_z}
use Rattle.std.proofs.lemmas.Grind.{common_steps}
use mir.Val.{bits}
use Rattle.std.specs.Int.{int_wrap}
use Rattle.std.proofs.lemmas.List.{append-nil, length-reverse}
use Rattle.monoid.specs.Ints.{width}
use Rattle.plan.specs.declared.table.Free.{Free}
use Rattle.plan.specs.Filling.{gathered}

-- a number that fits its width
pub number_is : (v : ℕ) (z : ℤ) {y : ℤ} → v < 2 ^ bits width → z ≡ to_z width v → y ≡ to_z width (of_z width z) → y ≡ int_wrap width (pos v)
unfolding int_wrap
number_is v z h f e = grind (arith, common_steps)

-- when the flags or the scope have come to their end
none_left : (us bs : List Bool) (n : ℕ) → (length us ≡ 0) ⊎ (length bs ≡ 0) → gathered us bs n ≡ []
none_left [] bs n h = refl
none_left (u ∷ us) [] n h = refl
none_left (u ∷ us) (b ∷ bs) n (inl h) = absurd (omega arith)
none_left (u ∷ us) (b ∷ bs) n (inr h) = absurd (omega arith)

pub all_gathered : (us bs : List Bool) (n : ℕ) (fs gs : List Free) → (length us ≡ 0) ⊎ (length bs ≡ 0) → fs ++ gathered us (reverse bs) n ≡ gs → fs ≡ gs
all_gathered us bs n fs gs h e = sym (append-nil fs) ∙ ap (λ l. fs ++ l) (sym (none_left us (reverse bs) n (by h))) ∙ e
  where
    by : (length us ≡ 0) ⊎ (length bs ≡ 0) → (length us ≡ 0) ⊎ (length (reverse bs) ≡ 0)
    by (inl k) = inl k
    by (inr k) = inr (length-reverse bs ∙ k)
