-- What the laws give of `product`. Assumes nothing.
use Rattle.std.proofs.Common.{◌≡◌, ℕ, ◌+◌, ◌<◌, List, [], ◌∷◌, ◌++◌, length, get_or, take, sym, ap, ◌∙◌}
use Rattle.std.proofs.lemmas.List.{take_more}
use Rattle.monoid.specs.Laws.{Laws, product}

module _ {M : Type 0} {unit : M} {op : M → M → M} (laws : Laws unit op) where
  pub product-append : (xs ys : List M) → product unit op (xs ++ ys) ≡ op (product unit op xs) (product unit op ys)
  product-append [] ys = sym (laws.left (product unit op ys))
  product-append (x ∷ xs) ys = ap (op x) (product-append xs ys) ∙ sym (laws.assoc x (product unit op xs) (product unit op ys))

  -- one element more of xs
  pub product_more : (xs : List M) (i : ℕ) (x : M) → i < length xs → x ≡ get_or xs i x → op (product unit op (take i xs)) x ≡ product unit op (take (i + 1) xs)
  product_more xs i x within read =
      let pushed : take (i + 1) xs ≡ take i xs ++ (x ∷ []) = take_more xs i x within ∙ ap (λ y. take i xs ++ (y ∷ [])) (sym read) in
      sym (ap (product unit op) pushed ∙ product-append (take i xs) (x ∷ []) ∙ ap (op (product unit op (take i xs))) (laws.right x))
