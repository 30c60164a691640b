-- A refusal is that of the first occurrence that refuses.
use Rattle.std.proofs.Common.{◌≡◌, ℕ, List, [], ◌∷◌, ◌++◌, ap, ◌∙◌, arith}
use mathlib.Core.Path as P
use Rattle.refusal.specs.declared.Refusal.{Refusal}
use Rattle.grammar.specs.declared.occurrence.Occurrence.{Occurrence}
use Rattle.lang.specs.Outcome.{Out, ok, refused, then}
use Rattle.judging.specs.Judging.{State, step, judge}
use Rattle.judging.specs.Laws.{First, FirstLaw}

-- one part after the other
judge-append : (xs ys : List Occurrence) (s : State) → judge (xs ++ ys) s ≡ then (judge xs s) (λ s. judge ys s)
judge-append [] ys s = P.refl
judge-append (o ∷ xs) ys s = by (step o.what o.place s) (judge-append xs ys)
  where
    by : (m : Out State) → ((s : State) → judge (xs ++ ys) s ≡ then (judge xs s) (λ s. judge ys s)) →
        then m (λ s. judge (xs ++ ys) s) ≡ then (then m (λ s. judge xs s)) (λ s. judge ys s)
    by (ok mid) next = next mid
    by (refused r) next = P.refl

-- the first that refuses
first_to : (s : State) (os : List Occurrence) (r : Refusal) → judge os s ≡ refused r → First s os r
first_to s [] r h = let z : ◌≡◌ {A = ℕ} 0 1 = cc in absurd (omega arith)
first_to s (o ∷ os) r h = by (step o.what o.place s) P.refl h (λ mid. first_to mid os r)
  where
    by : (m : Out State) → step o.what o.place s ≡ m → then m (λ s. judge os s) ≡ refused r → ((mid : State) → judge os mid ≡ refused r → First mid os r) → First s (o ∷ os) r
    by (ok mid) e k next =
        let f = next mid k in
        record { before = o ∷ f.before; at = f.at; after = f.after; reached = f.reached; split = ap (λ (l : List Occurrence). o ∷ l) f.split; passed = ap (λ m. then m (λ s. judge f.before s)) e ∙ f.passed; refuses = f.refuses }
    by (refused q) e k next = record { before = []; at = o; after = os; reached = s; split = P.refl; passed = P.refl; refuses = e ∙ k }

first_from : (s : State) (os : List Occurrence) (r : Refusal) → First s os r → judge os s ≡ refused r
first_from s os r f =
    ap (λ l. judge l s) f.split ∙ judge-append f.before (f.at ∷ f.after) s ∙ ap (λ m. then m (λ s. judge (f.at ∷ f.after) s)) f.passed ∙
    ap (λ m. then m (λ s. judge f.after s)) f.refuses

pub firsts : FirstLaw
firsts s os r = (first_to s os r, first_from s os r)
