-- To forget the faults keeps what is done with values and work.
use Rattle.std.proofs.Common.{◌≡◌, Bool, true, false, cond, List, [], ◌∷◌, refl}
use mathlib.Core.Option.{Option, none, some}
use Rattle.rules.specs.Outcome.{Outcome, ok, fail, Work, plus, ◌>>=◌, lift, all, keep}

abbrev pub forget : {E A : Type 0} → Outcome E A → Outcome (Unit {0}) A
forget (ok a) = ok a
forget (fail e) = fail tt

module _ {E : Type 0} where
  forget_plus : {A : Type 0} (n : _) (x : Work E A) → forget (plus n x) ≡ plus n (forget x)
  forget_plus n (ok p) = refl
  forget_plus n (fail e) = refl

  pub forget_bind : {A B : Type 0} (x : Work E A) (f : A → Work E B) → forget (x >>= f) ≡ (forget x >>= λ a. forget (f a))
  forget_bind (ok p) f = forget_plus p.1 (f p.0)
  forget_bind (fail e) f = refl

  pub forget_lift : {A : Type 0} (e : E) (o : Option A) → forget (lift e o) ≡ lift tt o
  forget_lift e none = refl
  forget_lift e (some a) = refl

  pub forget_cond : {A : Type 0} (t : Bool) (x y : Work E A) → forget (cond t x y) ≡ cond t (forget x) (forget y)
  forget_cond true x y = refl
  forget_cond false x y = refl

  pub forget_all : {A B : Type 0} (f : A → Work E B) (xs : List A) → forget (all f xs) ≡ all (λ x. forget (f x)) xs
  forget_all f [] = refl
  forget_all f (x ∷ xs) = simp (forget_bind, forget_all f xs)

  pub forget_keep : {A B : Type 0} (f : A → Work E Bool) (g : A → Work E B) (xs : List A) →
      forget (keep f g xs) ≡ keep (λ x. forget (f x)) (λ x. forget (g x)) xs
  forget_keep f g [] = refl
  forget_keep f g (x ∷ xs) = simp (forget_bind, forget_cond, forget_keep f g xs)
