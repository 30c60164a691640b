-- The two kinds of run, side by side.
use Rattle.std.proofs.Common.{◌≡◌, ℕ, [], ◌∷◌, sym, ap, ◌∙◌, subst, zero-le, add-zero, zero-add}
use Rattle.refusal.specs.declared.Refusal.{Refusal}
use Rattle.rules.specs.Outcome.{ok, Work}
use Rattle.rules.specs.Eval.{eval}
use Rattle.rules.specs.Laws.{Each, no_more, one_more, SameLaw, IdleLaw}
use Rattle.rules.proofs.Agree.{batch_law}
use Rattle.rules.proofs.Direct.{direct_law}

each_one : {R A : Type 0} {f : R → Work Refusal A} {ρ : R} {v : A} {w : ℕ} → Each f (ρ ∷ []) (v ∷ []) w → f ρ ≡ ok (v, w)
each_one {v = v} (one_more {w = w} p no_more) = p ∙ ap (λ n. ok (v, n)) (sym (add-zero w))

one_each : {R A : Type 0} (f : R → Work Refusal A) (ρ : R) (v : A) (w : ℕ) → f ρ ≡ ok (v, w) → Each f (ρ ∷ []) (v ∷ []) w
one_each f ρ v w p = subst (λ n. Each f (ρ ∷ []) (v ∷ []) n) (add-zero w) (one_more p no_more)

pub same_law : SameLaw
same_law H B Γ t e ρ v w = (
  (λ x.
      let k = (batch_law H B Γ t e (ρ ∷ []) 0 zero-le (v ∷ []) w).0 x in
      let z : w ≡ k.0 = k.2 ∙ zero-add k.0 in
      (direct_law H B Γ t e ρ v w).1 (each_one k.1 ∙ ap (λ n. ok (v, n)) (sym z), k.3)),
  (λ x.
      let k = (direct_law H B Γ t e ρ v w).0 x in
      (batch_law H B Γ t e (ρ ∷ []) 0 zero-le (v ∷ []) w).1 (w, one_each (λ ρ. eval H e ρ) ρ v w k.0, sym (zero-add w), k.1)),
)

pub idle_law : IdleLaw
idle_law H B Γ t e c h = (batch_law H B Γ t e [] c h [] c).1 (0, no_more, sym (add-zero c), h)
