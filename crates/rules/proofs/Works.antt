-- The rules are the sum of the charges of the direct run's occurrences, each of which is charged.
use Rattle.std.proofs.Common.{◌≡◌, ℕ, ◌+◌, ◌≤◌, Bool, true, false, cond, List, [], ◌∷◌, ◌++◌, length, sym, refl, ap, ◌∙◌, subst, add-zero, arith, length-append}
use mathlib.Core.Option.{Option, none, some}
use Rattle.refusal.specs.declared.Refusal.{Refusal}
use Rattle.types.specs.Types.{Ty, list}
use Rattle.lang.specs.Expr.{Expr, Args, con, group, var, bind, prim, ite, each, over, nil, more}
use Rattle.rules.specs.Outcome as Outcome
use Rattle.rules.specs.Outcome.{refusal, Outcome, ok, fail, Work, plus, cost, lift, all, keep}
use Rattle.rules.specs.Environment.{Env}
use Rattle.rules.specs.Joining.{HouseJoin}
use Rattle.rules.specs.Primitives.{apply, failure}
use Rattle.rules.specs.Charges.{prim_charge, ite_fork, fork_each, over_fork, join_charge}
use Rattle.rules.specs.Eval.{eval, evals}
use Rattle.rules.specs.Trace.{Charge, Trace, and_then, ◌>>=◌, give, charge, test, each_trace, keep_trace, total}
use Rattle.rules.specs.Traces.{direct_trace, direct_traces}
use Rattle.rules.specs.Laws.{Summed, WorkLaw, CountLaw}
use Rattle.rules.proofs.Cases.{ok_inj}

abbrev pub tally : {A : Type 0} → List Charge → Outcome Refusal A → Work Refusal A
tally cs (ok a) = ok (a, total cs)
tally cs (fail r) = fail r

-- the outcome r is the sum of t, and no occurrence of t is free of charge
pub record Sums {A : Type 0} (r : Work Refusal A) (t : Trace A) : Type 0 where
  pub sums : r ≡ tally t.0 t.1
  pub counts : length t.0 ≤ total t.0

pub total-append : (xs ys : List Charge) → total (xs ++ ys) ≡ total xs + total ys
total-append [] ys = omega arith
total-append (x ∷ xs) ys = let h = total-append xs ys in omega arith

plus_tally : {A : Type 0} (cs ds : List Charge) (o : Outcome Refusal A) → plus (total cs) (tally ds o) ≡ tally (cs ++ ds) o
plus_tally cs ds (ok a) = ap (λ n. ok (a, n)) (sym (total-append cs ds))
plus_tally cs ds (fail r) = refl

sums_then : {A C : Type 0} (cs : List Charge) (o : Outcome Refusal A) (f : A → Work Refusal C) (g : A → Trace C) → length cs ≤ total cs →
    ((a : A) → Sums (f a) (g a)) →
    Sums (Outcome.◌>>=◌ (tally cs o) f) (and_then cs o g)
sums_then cs (ok a) f g l h = record {
  sums = ap (λ x. plus (total cs) x) (h a).sums ∙ plus_tally cs (g a).0 (g a).1;
  counts = omega (arith, length-append cs (g a).0, total-append cs (g a).0, (h a).counts);
}
sums_then cs (fail r) f g l h = record { sums = refl; counts = l }

sums_bind : {A C : Type 0} {r : Work Refusal A} {t : Trace A} {f : A → Work Refusal C} {g : A → Trace C} → Sums r t → ((a : A) → Sums (f a) (g a)) →
    Sums (Outcome.◌>>=◌ r f) (t >>= g)
sums_bind {r = r} {t} {f} {g} s h =
    subst (λ x. Sums (Outcome.◌>>=◌ x f) (t >>= g)) (sym s.sums) (sums_then t.0 t.1 f g s.counts h)

sums_charge : {A : Type 0} (p n : ℕ) (a : A) → 1 ≤ n → Sums (cost n a) (charge p n a)
sums_charge p n a h = record { sums = ap (λ k. ok (a, k)) (sym (add-zero n)); counts = omega arith }

sums_give : {A : Type 0} (a : A) → Sums (cost 0 a) (give a)
sums_give a = record { sums = refl; counts = omega arith }

sums_test : {A : Type 0} (e : Refusal) (o : Option A) → Sums (lift e o) (test e o)
sums_test e none = record { sums = refl; counts = omega arith }
sums_test e (some a) = record { sums = refl; counts = omega arith }

sums_cond : {A : Type 0} (t : Bool) {f g : Work Refusal A} {x y : Trace A} → Sums f x → Sums g y → Sums (cond t f g) (cond t x y)
sums_cond true s u = s
sums_cond false s u = u

sums_each : {A C : Type 0} (f : A → Work Refusal C) (g : A → Trace C) → ((a : A) → Sums (f a) (g a)) → (xs : List A) →
    Sums (all f xs) (each_trace g xs)
sums_each f g s [] = sums_give []
sums_each f g s (x ∷ xs) = sums_bind (s x) λ y. sums_bind (sums_each f g s xs) λ ys. sums_give (y ∷ ys)

sums_keep : {A C : Type 0} (p : A → Work Refusal Bool) (q : A → Trace Bool) (f : A → Work Refusal C) (g : A → Trace C) →
    ((a : A) → Sums (p a) (q a)) →
    ((a : A) → Sums (f a) (g a)) → (xs : List A) → Sums (keep p f xs) (keep_trace q g xs)
sums_keep p q f g r s [] = sums_give []
sums_keep p q f g r s (x ∷ xs) =
    sums_bind (r x) λ t. sums_cond t (sums_bind (s x) λ y. sums_bind (sums_keep p q f g r s xs) λ ys. sums_give (y ∷ ys)) (sums_keep p q f g r s xs)

module _ (H : HouseJoin) where
  mutual
    unfolding eval direct_trace

    pub summed : {Γ : List Ty} {t : Ty} (e : Expr Γ t) (ρ : Env Γ) → Sums (eval H e ρ) (direct_trace H e ρ)
    summed (con p k) ρ = sums_charge p 1 _ (omega arith)
    summed (group p e) ρ = sums_bind (summed e ρ) λ v. sums_charge p 1 v (omega arith)
    summed (var p x) ρ = sums_charge p 1 _ (omega arith)
    summed (bind p e b) ρ = sums_bind (summed e ρ) λ v. sums_bind (summed b (v, ρ)) λ u. sums_charge p 1 u (omega arith)
    summed (prim {ts = ts} {t = t} p o es) ρ =
        sums_bind (summeds es ρ) λ vs. sums_bind (sums_test (refusal (failure o) p) (apply H o vs)) λ v.
        sums_charge p (prim_charge ts t vs v) v (omega arith)
    summed (ite {t = t} p c a b) ρ =
        sums_bind (summed c ρ) λ x.
        sums_bind (sums_charge p (ite_fork a b ρ) x (omega arith)) λ x.
        sums_bind (sums_cond x (summed a ρ) (summed b ρ)) λ v. sums_charge p (join_charge t v) v (omega arith)
    summed (each {b = u} p s f b) ρ =
        sums_bind (summed s ρ) λ xs.
        sums_bind (sums_charge p (fork_each f b ρ xs) xs (omega arith)) λ xs.
        sums_bind
        (sums_keep (λ x. eval H f (x, ρ)) (λ x. direct_trace H f (x, ρ)) (λ x. eval H b (x, ρ)) (λ x. direct_trace H b (x, ρ))
        (λ x. summed f (x, ρ)) (λ x. summed b (x, ρ)) xs) λ vs. sums_charge p (join_charge (list u) vs) vs (omega arith)
    summed (over {b = u} p s b) ρ =
        sums_bind (summed s ρ) λ xs.
        sums_bind (sums_charge p (over_fork b ρ xs) xs (omega arith)) λ xs.
        sums_bind (sums_each (λ x. eval H b (x, ρ)) (λ x. direct_trace H b (x, ρ)) (λ x. summed b (x, ρ)) xs) λ vs.
        sums_charge p (join_charge (list u) vs) vs (omega arith)

    pub summeds : {Γ ts : List Ty} (es : Args Γ ts) (ρ : Env Γ) → Sums (evals H es ρ) (direct_traces H es ρ)
    summeds nil ρ = sums_give tt
    summeds (more e es) ρ = sums_bind (summed e ρ) λ v. sums_bind (summeds es ρ) λ vs. sums_give (v, vs)

tally_summed : {A : Type 0} (cs : List Charge) (o : Outcome Refusal A) → Summed (cs, o) (tally cs o)
tally_summed {A} cs (ok b) = record {
  answers = λ a w. (
    (λ h. let q = ok_inj {E = Refusal} (b, total cs) (a, w) h in (ap (λ x. ok x.0) q, sym (ap (λ x. x.1) q))),
    (λ h. let q : b ≡ a = cc in ap (λ x. ok (x, total cs)) q ∙ ap (λ n. ok (a, n)) (sym h.1)),
  );
  fails = λ f. ((λ h. absurd cc), (λ h. absurd cc));
}
tally_summed cs (fail r) = record {
  answers = λ a w. ((λ h. absurd cc), (λ h. absurd cc));
  fails = λ f. ((λ h. ap fail (cc)), (λ h. ap fail (cc)));
}

pub work_law : WorkLaw
work_law H Γ t e ρ =
    subst (λ r. Summed (direct_trace H e ρ) r) (sym (summed H e ρ).sums) (tally_summed (direct_trace H e ρ).0 (direct_trace H e ρ).1)

pub count_law : CountLaw
count_law H Γ t e ρ v w h =
    let k = ((work_law H Γ t e ρ).answers v w).0 h in
    omega (arith, (summed H e ρ).counts, k.1)
