-- The parts of the variables that were used.
use Rattle.std.proofs.Common.{◌≡◌, ℕ, ◌-◌, ◌*◌, ◌≤◌, Bool, true, false, cond, ltb, List, [], ◌∷◌, map, length, take, drop, set, replicate, refl, ap, ◌∙◌, arith}
use Rattle.std.specs.List.{sum_by, filter, zip}
use Rattle.std.proofs.lemmas.List.Sums.{sum_by-cons}
use Rattle.std.proofs.lemmas.List.{length-set, take_rest, length-replicate}
use Rattle.types.specs.Types.{Ty}
use Rattle.types.specs.Entries.{counted}
use Rattle.lang.specs.Scope.{Binding}
use Rattle.judging.specs.Judging.{parts_used, used_at}
use Rattle.typing.specs.Codes.{binding_of, type_at, replay}
use Rattle.typing.specs.declared.parts.Binding.{Binding as Entry}
use Rattle.typing.specs.declared.parts.Use.{Use}

module _ (ts : List Ty) where
  -- the parts of a variable, and whether it was used
  abbrev pub parts_at : Entry × Bool → ℕ
  parts_at p = counted (type_at ts p.0.code)

  pub used_sum : (sc : List Entry) (us : List Bool) → sum_by parts_at (filter (λ p. p.1) (zip sc us)) ≡ parts_used (map (binding_of ts) sc) us
  used_sum [] [] = refl
  used_sum [] (u ∷ us) = refl
  used_sum (b ∷ sc) [] = refl
  used_sum (b ∷ sc) (true ∷ us) = omega (arith, sum_by-cons parts_at (b, true) (filter (λ p. p.1) (zip sc us)), used_sum sc us)
  used_sum (b ∷ sc) (false ∷ us) = used_sum sc us

pub used_few : (s : List Binding) (us : List Bool) → parts_used s us ≤ 1000000 * length us
used_few s [] = omega arith
used_few [] (u ∷ us) = omega arith
used_few (b ∷ s) (true ∷ us) = omega (arith, used_few s us)
used_few (b ∷ s) (false ∷ us) = omega (arith, used_few s us)

-- as many flags as before
length_cond : (t : Bool) (us : List Bool) (i : ℕ) → length (cond t us (set us i true)) ≡ length us
length_cond true us i = refl
length_cond false us i = length-set us i true

pub length-replay : (es : List Use) (us : List Bool) → length (replay es us) ≡ length us
length-replay [] us = refl
length-replay (e ∷ es) us =
    length-replay es (used_at e.depth e.index us) ∙ length_cond (ltb e.index (e.depth - length us)) us (e.index - (e.depth - length us))

-- the flags as the code has them
pub flags_are : (us vs : List Use) (s d : ℕ) (fl : List Bool) → vs ≡ us → fl ≡ replicate d false → replay (take (length vs - s) (drop s vs)) fl ≡ replay (drop s us) (replicate d false)
flags_are us vs s d fl ev ef =
    ap (λ l. replay l fl) (take_rest vs s) ∙ ap (λ l. replay (drop s l) fl) ev ∙ ap (replay (drop s us)) ef

pub flags_long : (us : List Use) (s d : ℕ) → length (replay (drop s us) (replicate d false)) ≡ d
flags_long us s d = length-replay (drop s us) (replicate d false) ∙ length-replicate d false
