-- The products before each element. Assumes nothing.
use Rattle.std.proofs.Common.{◌≡◌, ℕ, zero, suc, ◌<◌, List, [], ◌∷◌, length, get_or, take, sym, refl, ap, ◌∙◌, arith}
use Rattle.monoid.specs.Laws.{Laws, product}
use Rattle.monoid.specs.Segments.{running}

module _ {M : Type 0} {unit : M} {op : M → M → M} (laws : Laws unit op) where
  pub length-running : (a : M) (xs : List M) → length (running op a xs) ≡ length xs
  length-running a [] = refl
  length-running a (x ∷ xs) = ap suc (length-running (op a x) xs)

  running-at : (a : M) (xs : List M) (k : ℕ) → k < length xs → get_or (running op a xs) k unit ≡ op a (product unit op (take k xs))
  running-at a [] k h = absurd (omega arith)
  running-at a (x ∷ xs) zero h = sym (laws.right a)
  running-at a (x ∷ xs) (suc k) h = running-at (op a x) xs k (omega arith) ∙ laws.assoc a x (product unit op (take k xs))

  pub get_or-running : (xs : List M) (k : ℕ) → k < length xs → get_or (running op unit xs) k unit ≡ product unit op (take k xs)
  get_or-running xs k h = running-at unit xs k h ∙ laws.left (product unit op (take k xs))
