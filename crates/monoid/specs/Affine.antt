-- Affine maps over a ring, as pairs: (a, b) takes x to a x + b.
module _ {R : Type 0} where
  abbrev pub affine_identity : R → R → R × R
  affine_identity zero one = (one, zero)

  -- the map x, and then y
  abbrev pub affine_then : (R → R → R) → (R → R → R) → R × R → R × R → R × R
  affine_then plus times x y = (times x.0 y.0, plus (times y.0 x.1) y.1)
