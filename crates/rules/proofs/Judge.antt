-- What a budget makes of a list of charged occurrences and what stands at its end, as a function; it does what is said of it.
use Rattle.std.proofs.Common.{◌≡◌, ℕ, ◌+◌, ◌<◌, ◌≤◌, Bool, true, false, not, T, leb, ◌⊎◌, List, [], ◌∷◌, sym, refl, ap, ◌∙◌, inl, inr, arith, le→leb, leb→le}
use Rattle.std.proofs.lemmas.Grind.{common_steps}
use lib.Dec.{nleb→lt}
use Rattle.refusal.specs.declared.Refusal.{Refusal}
use Rattle.rules.specs.Outcome.{refusal, Outcome, ok, fail}
use Rattle.rules.specs.Run.{Run, spent}
use Rattle.rules.specs.Trace.{Charge, Trace, total, Over, here, further}
use Rattle.rules.specs.Laws.{Judged}

abbrev pub passes : {A : Type 0} → Bool → ℕ → Outcome Refusal A → Outcome Refusal A
passes true p r = r
passes false p r = fail (refusal spent p)

abbrev pub judge : (B : ℕ) {A : Type 0} → List Charge → Outcome Refusal A → Run A
judge B [] (ok a) c = ok (a, c)
judge B [] (fail r) c = fail r
judge B (x ∷ xs) (ok a) c = passes (leb (c + x.amount) B) x.place (judge B xs (ok a) (c + x.amount))
judge B (x ∷ xs) (fail r) c = passes (leb (c + x.amount) B) x.place (judge B xs (fail r) (c + x.amount))

module _ (B : ℕ) {A : Type 0} where
  pub pass_true : (p c : ℕ) (r : Outcome Refusal A) → c ≤ B → passes (leb c B) p r ≡ r
  pass_true p c r h = by (leb c B) (le→leb c B h)
    where
      by : (b : Bool) → T b → passes b p r ≡ r
      by true t = refl
      by false t = absurd t

  pub pass_false : (p c : ℕ) (r : Outcome Refusal A) → B < c → passes (leb c B) p r ≡ fail (refusal spent p)
  pass_false p c r h = by (leb c B) (λ t. let k = leb→le c B t in omega arith)
    where
      by : (b : Bool) → (T b → ⊥) → passes b p r ≡ fail (refusal spent p)
      by true t = absurd (t tt)
      by false t = refl

  -- the one or the other
  by_pass : {X : Type 0} (p c : ℕ) (r s : Outcome Refusal A) → passes (leb c B) p r ≡ s → (c ≤ B → r ≡ s → X) →
      (B < c → fail (refusal spent p) ≡ s → X) → X
  by_pass {X} p c r s h keeps stops = by (leb c B) (leb→le c B) (nleb→lt c B) h
    where
      by : (b : Bool) → (T b → c ≤ B) → (T (not b) → B < c) → passes b p r ≡ s → X
      by true le lt h = keeps (le tt) h
      by false le lt h = stops (lt tt) h

module _ (B : ℕ) {A : Type 0} where
  pub judge_cons : (x : Charge) (xs : List Charge) (o : Outcome Refusal A) (c : ℕ) →
      judge B (x ∷ xs) o c ≡ passes (leb (c + x.amount) B) x.place (judge B xs o (c + x.amount))
  judge_cons x xs (ok a) c = refl
  judge_cons x xs (fail r) c = refl

  abbrev Answered : ℕ → List Charge → Outcome Refusal A → A → ℕ → Type 0
  Answered c cs o a d = (o ≡ ok a) × (d ≡ c + total cs) × (d ≤ B)

  abbrev Refused : ℕ → List Charge → Outcome Refusal A → Refusal → Type 0
  Refused c cs o f = ((p : ℕ) × Over B c cs p × (f ≡ refusal spent p)) ⊎ ((o ≡ fail f) × (c + total cs ≤ B))

  answered : (cs : List Charge) (o : Outcome Refusal A) (c : ℕ) → c ≤ B → (a : A) (d : ℕ) → judge B cs o c ≡ ok (a, d) → Answered c cs o a d
  answered [] (ok b) c h a d e = grind (arith, common_steps)
  answered [] (fail r) c h a d e = absurd cc
  answered (x ∷ xs) o c h a d e =
      by_pass B x.place (c + x.amount) (judge B xs o (c + x.amount)) (ok (a, d)) (sym (judge_cons x xs o c) ∙ e)
      (λ le k. let i = answered xs o (c + x.amount) le a d k in (i.0, omega (arith, i.1), i.2))
      (λ lt k. absurd cc)

  answers_so : (cs : List Charge) (o : Outcome Refusal A) (c : ℕ) (a : A) (d : ℕ) → Answered c cs o a d → judge B cs o c ≡ ok (a, d)
  answers_so [] o c a d h = rw h.0 (let k : c ≡ d = omega (arith, h.1) in ap (λ n. ok (a, n)) k)
  answers_so (x ∷ xs) o c a d h =
      judge_cons x xs o c ∙ pass_true B x.place (c + x.amount) (judge B xs o (c + x.amount)) (omega (arith, h.1, h.2))
      ∙ answers_so xs o (c + x.amount) a d (h.0, omega (arith, h.1), h.2)

  refused : (cs : List Charge) (o : Outcome Refusal A) (c : ℕ) → c ≤ B → (f : Refusal) → judge B cs o c ≡ fail f → Refused c cs o f
  refused [] (ok b) c h f e = absurd cc
  refused [] (fail r) c h f e = inr (ap fail (cc), omega arith)
  refused (x ∷ xs) o c h f e =
      by_pass B x.place (c + x.amount) (judge B xs o (c + x.amount)) (fail f) (sym (judge_cons x xs o c) ∙ e)
      (λ le k. elim (refused xs o (c + x.amount) le f k) [
        | inl i ↦ inl (i.0, further le i.1, i.2)
        | inr i ↦ inr (i.0, omega (arith, i.1))
      ])
      (λ lt k. inl (x.place, here lt, sym (cc)))

  over_refuses : {c p : ℕ} {cs : List Charge} (o : Outcome Refusal A) → Over B c cs p → judge B cs o c ≡ fail (refusal spent p)
  over_refuses o (here {c} {x} {xs} lt) = judge_cons x xs o c ∙ pass_false B x.place (c + x.amount) (judge B xs o (c + x.amount)) lt
  over_refuses o (further {c} {p} {x} {xs} le r) =
      judge_cons x xs o c ∙ pass_true B x.place (c + x.amount) (judge B xs o (c + x.amount)) le ∙ over_refuses o r

  end_refuses : (cs : List Charge) (o : Outcome Refusal A) (c : ℕ) (f : Refusal) → o ≡ fail f → c + total cs ≤ B → judge B cs o c ≡ fail f
  end_refuses [] o c f e h = rw e
  end_refuses (x ∷ xs) o c f e h =
      judge_cons x xs o c ∙ pass_true B x.place (c + x.amount) (judge B xs o (c + x.amount)) (omega arith)
      ∙ end_refuses xs o (c + x.amount) f e (omega arith)

  refuses_so : (cs : List Charge) (o : Outcome Refusal A) (c : ℕ) (f : Refusal) → Refused c cs o f → judge B cs o c ≡ fail f
  refuses_so cs o c f (inl h) = over_refuses o h.1 ∙ ap fail (sym h.2)
  refuses_so cs o c f (inr h) = end_refuses cs o c f h.0 h.1

  pub judge-is-judged : (c : ℕ) → c ≤ B → (t : Trace A) (r : Outcome Refusal (A × ℕ)) → r ≡ judge B t.0 t.1 c → Judged B c t r
  judge-is-judged c h t r e = record {
    answers = λ a d. ((λ k. answered t.0 t.1 c h a d (sym e ∙ k)), (λ k. e ∙ answers_so t.0 t.1 c a d k));
    refuses = λ f. ((λ k. refused t.0 t.1 c h f (sym e ∙ k)), (λ k. e ∙ refuses_so t.0 t.1 c f k));
  }
