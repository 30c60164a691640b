-- A name is made of one run of bytes only.
use Rattle.std.proofs.Common.{◌≡◌, ℕ, zero, suc, ◌-◌, true, List, [], ◌∷◌, ◌++◌, length, drop, replicate, sym, refl, ap, ◌∙◌, arith}
use Rattle.std.proofs.lemmas.List.{drop-replicate}
use Rattle.std.proofs.lemmas.Bool.{both_ways}
use Rattle.tokens.specs.declared.byte.Class.TheVariants.{InName}
use Rattle.tokens.specs.Bytes.{in_name, AllIn}
use Rattle.tokens.specs.Words.{padded}

-- a byte of a name is not 0
not_zero : (x : ℕ) → in_name x ≡ true → 0 ≡ x → ⊥
not_zero x h e = both_ways _ (ap in_name (sym e)) h

-- with zeros behind them, bytes of names are still told apart
unpadded : (v w : List ℕ) (m n : ℕ) → AllIn InName v → AllIn InName w → v ++ replicate m 0 ≡ w ++ replicate n 0 → v ≡ w
unpadded [] [] m n p q e = refl
unpadded [] (y ∷ w) zero n p q e = cc
unpadded [] (y ∷ w) (suc m) n p q e = let same : ◌≡◌ {A = ℕ} 0 y = cc in absurd (not_zero y (q 0 (omega arith)) same)
unpadded (x ∷ v) [] m zero p q e = cc
unpadded (x ∷ v) [] m (suc n) p q e = let same : ◌≡◌ {A = ℕ} 0 x = cc in absurd (not_zero x (p 0 (omega arith)) same)
unpadded (x ∷ v) (y ∷ w) m n p q e =
    let rest : v ≡ w = unpadded v w m n (λ k h. p (suc k) (omega arith)) (λ k h. q (suc k) (omega arith)) (cc) in
    let head : x ≡ y = cc in
    cc

pub padded-apart : (v w : List ℕ) → AllIn InName v → AllIn InName w → padded v ≡ padded w → v ≡ w
padded-apart v w p q e = unpadded v w (16 - length v) (16 - length w) p q e

-- bytes copied over the first of sixteen zeros
pub copied : (xs w : List ℕ) → xs ≡ w → xs ++ drop (length w) (replicate 16 0) ≡ padded w
copied xs w e = ap (λ ys. ys ++ drop (length w) (replicate 16 0)) e ∙ ap (λ ys. w ++ ys) (drop-replicate (length w) 16 0)
