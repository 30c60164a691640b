-- Affine maps over any commutative semiring are a monoid.
use Rattle.std.specs.Prelude.{◌≡◌}
use Rattle.std.proofs.Common.{sym, ap, ap₂, ◌∙◌}
use Rattle.monoid.specs.Affine.{affine_identity, affine_then}
use Rattle.monoid.specs.Laws.{Laws, SemiringLaws}

module _ {R : Type 0} {zero one : R} {plus times : R → R → R} (ring : SemiringLaws zero one plus times) where
  -- (c, d) after b, and then (e, f)
  shift : (b c d e f : R) → plus (times e (plus (times c b) d)) f ≡ plus (times (times c e) b) (plus (times e d) f)
  shift b c d e f =
      ap (λ x. plus x f) (ring.distributes e (times c b) d)
      ∙ ring.sums.assoc (times e (times c b)) (times e d) f
      ∙ ap (λ x. plus x (plus (times e d) f)) (sym (ring.products.assoc e c b) ∙ ap (λ x. times x b) (ring.products_commute e c))

  pub affine_laws : Laws (affine_identity zero one) (affine_then plus times)
  affine_laws = record {
    left = λ x. ap₂ (λ (a b : R). (a, b)) (ring.products.left x.0) (ap (λ z. plus z x.1) (ring.times_zero x.0) ∙ ring.sums.left x.1);
    right = λ x. ap₂ (λ (a b : R). (a, b)) (ring.products.right x.0) (ring.sums.right (times one x.1) ∙ ring.products.left x.1);
    assoc = λ x y z. ap₂ (λ (a b : R). (a, b)) (ring.products.assoc x.0 y.0 z.0) (shift x.1 y.0 y.1 z.0 z.1);
  }
