-- A run under a budget, against the same without: what is charged in between never passes the budget unless the whole does.
use Rattle.std.proofs.Common.{◌≡◌, ℕ, ◌+◌, ◌<◌, ◌≤◌, Bool, true, false, not, T, leb, sym, refl, ap, ◌∙◌, subst, add-zero, add_assoc, arith, le→leb, leb→le}
use mathlib.Core.Option.{Option, none, some}
use lib.Dec.{nleb→lt}
use Rattle.refusal.specs.declared.Refusal.{Refusal}
use Rattle.rules.specs.Outcome.{Outcome, ok, fail, Work, plus, ◌>>=◌, cost, lift}
use Rattle.rules.specs.Run.{Run, go, give, test, charged, charge}
use Rattle.rules.specs.Run as Run
use Rattle.rules.proofs.Forget.{forget}

abbrev M : Type 0 → Type 0
M A = Work (Unit {0}) A

abbrev pub fits : {A : Type 0} → Bool → A → ℕ → M A
fits true a c = ok (a, c)
fits false a c = fail tt

abbrev pub within : {A : Type 0} → ℕ → ℕ → M A → M A
within B c (ok p) = fits (leb (c + p.1) B) p.0 (c + p.1)
within B c (fail e) = fail e

-- a run answers exactly what m says, if that is within the budget
pub record Sim (B : ℕ) {A : Type 0} (r : Run A) (m : M A) : Type 0 where
  pub sim : (c : ℕ) → c ≤ B → forget (r c) ≡ within B c m

pub fits_true : {A : Type 0} (B : ℕ) (a : A) (c : ℕ) → c ≤ B → fits (leb c B) a c ≡ ok (a, c)
fits_true B a c h = by (leb c B) (le→leb c B h)
  where
    by : (b : Bool) → T b → fits b a c ≡ ok (a, c)
    by true t = refl
    by false t = absurd t

fits_false : {A : Type 0} (B : ℕ) (a : A) (c : ℕ) → B < c → fits (leb c B) a c ≡ fail tt
fits_false B a c h = by (leb c B) (λ t. let k = leb→le c B t in omega arith)
  where
    by : (b : Bool) → (T b → ⊥) → fits b a c ≡ fail tt
    by true t = absurd (t tt)
    by false t = refl

module _ (B : ℕ) where
  pub sim_to : {A : Type 0} {r : Run A} {m n : M A} → Sim B r m → m ≡ n → Sim B r n
  sim_to {r = r} s e = subst (λ k. Sim B r k) e s

  pub sim_charge : {A : Type 0} (p n : ℕ) (a : A) → Sim B (charge B p n a) (cost n a)
  sim_charge p n a = record { sim = λ c h. by c (leb (c + n) B) }
    where
      by : (c : ℕ) (b : Bool) → forget (charged b p (c + n) a) ≡ fits b a (c + n)
      by c true = refl
      by c false = refl

  pub sim_give : {A : Type 0} (a : A) → Sim B (give a) (cost 0 a)
  sim_give a = record { sim = λ c h. simp add-zero (sym (fits_true B a c h)) }

  pub sim_test : {A : Type 0} (e : Refusal) (o : Option A) → Sim B (test e o) (lift tt o)
  sim_test e none = record { sim = λ c h. refl }
  sim_test e (some a) = record { sim = λ c h. simp add-zero (sym (fits_true B a c h)) }

  over : {A C : Type 0} → M A → (A → ℕ → M C) → M C
  over (ok p) f = f p.0 p.1
  over (fail e) f = fail e

  forget_go : {A C : Type 0} (x : Outcome Refusal (A × ℕ)) (f : A → Run C) → forget (go x f) ≡ over (forget x) (λ a c. forget (f a c))
  unfolding over
  forget_go (ok p) f = refl
  forget_go (fail e) f = refl

  within-plus : {A : Type 0} (c n : ℕ) (m : M A) → within B (c + n) m ≡ within B c (plus n m)
  within-plus c n (ok p) = simp add_assoc
  within-plus c n (fail e) = refl

  within_past : {A : Type 0} (c n : ℕ) (m : M A) → B < c + n → within B c (plus n m) ≡ fail tt
  within_past c n (ok p) h = fits_false B p.0 (c + (n + p.1)) (omega arith)
  within_past c n (fail e) h = refl

  over_within : {A C : Type 0} (f : A → Run C) (m : M A) (g : A → M C) → ((a : A) → Sim B (f a) (g a)) → (c : ℕ) →
      over (within B c m) (λ a k. forget (f a k)) ≡ within B c (m >>= g)
  unfolding over
  over_within f (fail e) g s c = refl
  over_within f (ok p) g s c = by (leb (c + p.1) B) (leb→le (c + p.1) B) (nleb→lt (c + p.1) B)
    where
      by : (b : Bool) → (T b → c + p.1 ≤ B) → (T (not b) → B < c + p.1) →
          over (fits b p.0 (c + p.1)) (λ a k. forget (f a k)) ≡ within B c (plus p.1 (g p.0))
      by true le lt = (s p.0).sim (c + p.1) (le tt) ∙ within-plus c p.1 (g p.0)
      by false le lt = sym (within_past c p.1 (g p.0) (lt tt))

  pub sim_bind : {A C : Type 0} {r : Run A} {m : M A} {f : A → Run C} {g : A → M C} → Sim B r m → ((a : A) → Sim B (f a) (g a)) →
      Sim B (Run.◌>>=◌ r f) (m >>= g)
  sim_bind {r = r} {m} {f} {g} s t =
      record { sim = λ c h. forget_go (r c) f ∙ ap (λ x. over x (λ a k. forget (f a k))) (s.sim c h) ∙ over_within f m g t c }
