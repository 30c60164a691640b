-- The direct run against the rules: the same steps, under a budget.
use Rattle.std.proofs.Common.{◌≡◌, ℕ, Bool, true, false, cond, List, [], ◌∷◌, sym, ap, ◌∙◌, zero-le, zero-add}
use Rattle.types.specs.Types.{Ty, list}
use Rattle.lang.specs.Expr.{Expr, Args, con, group, var, bind, prim, ite, each, over, nil, more}
use Rattle.rules.specs.Outcome.{refusal, Work, all, keep}
use Rattle.rules.specs.Environment.{Env}
use Rattle.rules.specs.Joining.{HouseJoin}
use Rattle.rules.specs.Primitives.{apply, failure}
use Rattle.rules.specs.Charges.{prim_charge, ite_fork, fork_each, over_fork, join_charge}
use Rattle.rules.specs.Eval.{eval, evals}
use Rattle.rules.specs.Run.{Run, branch, each_run, keep_run}
use Rattle.rules.specs.Direct.{direct, directs}
use Rattle.rules.specs.Laws.{DirectLaw}
use Rattle.rules.proofs.Budget.{Sim, sim_to, sim_bind, sim_charge, sim_give, sim_test}
use Rattle.rules.proofs.Forget.{forget, forget_bind, forget_cond, forget_lift, forget_keep, forget_all}
use Rattle.rules.proofs.Agree.{within_ok, within_of, ok_of_forget}

abbrev M : Type 0 → Type 0
M A = Work (Unit {0}) A

module _ (B : ℕ) where
  sim_branch : {A : Type 0} (t : Bool) {f g : Run A} {x y : M A} → Sim B f x → Sim B g y → Sim B (branch t f g) (cond t x y)
  sim_branch true s u = s
  sim_branch false s u = u

  sim_each : {A C : Type 0} (f : A → Run C) (g : A → M C) → ((a : A) → Sim B (f a) (g a)) → (xs : List A) → Sim B (each_run f xs) (all g xs)
  sim_each f g s [] = sim_give B []
  sim_each f g s (x ∷ xs) = sim_bind B (s x) λ y. sim_bind B (sim_each f g s xs) λ ys. sim_give B (y ∷ ys)

  sim_keep : {A C : Type 0} (p : A → Run Bool) (q : A → M Bool) (f : A → Run C) (g : A → M C) → ((a : A) → Sim B (p a) (q a)) →
      ((a : A) → Sim B (f a) (g a)) →
      (xs : List A) → Sim B (keep_run p f xs) (keep q g xs)
  sim_keep p q f g r s [] = sim_give B []
  sim_keep p q f g r s (x ∷ xs) =
      sim_bind B (r x) λ t. sim_branch t (sim_bind B (s x) λ y. sim_bind B (sim_keep p q f g r s xs) λ ys.
      sim_give B (y ∷ ys)) (sim_keep p q f g r s xs)

module _ (H : HouseJoin) (B : ℕ) where
  mutual
    unfolding direct eval

    pub direct_sim : {Γ : List Ty} {t : Ty} (e : Expr Γ t) (ρ : Env Γ) → Sim B (direct H B e ρ) (forget (eval H e ρ))
    direct_sim (con p k) ρ = sim_charge B p 1 _
    direct_sim (group p e) ρ = sim_to B (sim_bind B (direct_sim e ρ) λ v. sim_charge B p 1 v) (simp forget_bind)
    direct_sim (var p x) ρ = sim_charge B p 1 _
    direct_sim (bind p e b) ρ = sim_to B (sim_bind B (direct_sim e ρ) λ v. sim_bind B (direct_sim b (v, ρ)) λ u.
        sim_charge B p 1 u) (simp forget_bind)
    direct_sim (prim {ts = ts} {t = t} p o es) ρ =
        sim_to B (sim_bind B (directs_sim es ρ) λ vs. sim_bind B (sim_test B (refusal (failure o) p) (apply H o vs)) λ v.
        sim_charge B p (prim_charge ts t vs v) v) (simp (forget_bind, forget_lift))
    direct_sim (ite {t = t} p c a b) ρ =
        sim_to B
        (sim_bind B (direct_sim c ρ) λ x. sim_bind B (sim_charge B p (ite_fork a b ρ) x) λ x.
        sim_bind B (sim_branch B x (direct_sim a ρ) (direct_sim b ρ)) λ v. sim_charge B p (join_charge t v) v)
        (simp (forget_bind, forget_cond))
    direct_sim (each {b = u} p s f b) ρ =
        sim_to B
        (sim_bind B (direct_sim s ρ) λ xs.
        sim_bind B (sim_charge B p (fork_each f b ρ xs) xs) λ xs.
        sim_bind B (sim_keep B (λ x. direct H B f (x, ρ)) (λ x. forget (eval H f (x, ρ))) (λ x. direct H B b (x, ρ))
        (λ x. forget (eval H b (x, ρ))) (λ x. direct_sim f (x, ρ)) (λ x. direct_sim b (x, ρ)) xs) λ vs.
        sim_charge B p (join_charge (list u) vs) vs)
        (simp (forget_bind, forget_keep))
    direct_sim (over {b = u} p s b) ρ =
        sim_to B
        (sim_bind B (direct_sim s ρ) λ xs.
        sim_bind B (sim_charge B p (over_fork b ρ xs) xs) λ xs.
        sim_bind B (sim_each B (λ x. direct H B b (x, ρ)) (λ x. forget (eval H b (x, ρ))) (λ x. direct_sim b (x, ρ)) xs) λ vs.
        sim_charge B p (join_charge (list u) vs) vs)
        (simp (forget_bind, forget_all))

    pub directs_sim : {Γ ts : List Ty} (es : Args Γ ts) (ρ : Env Γ) → Sim B (directs H B es ρ) (forget (evals H es ρ))
    directs_sim nil ρ = sim_give B tt
    directs_sim (more e es) ρ = sim_to B (sim_bind B (direct_sim e ρ) λ v. sim_bind B (directs_sim es ρ) λ vs. sim_give B (v, vs)) (simp forget_bind)

pub direct_law : DirectLaw
direct_law H B Γ t e ρ v w = (
  (λ x.
      let k = within_ok B 0 (forget (eval H e ρ)) v w (sym ((direct_sim H B e ρ).sim 0 zero-le) ∙ ap forget x) in
      let z : w ≡ k.0 = k.2 ∙ zero-add k.0 in
      (rw z (ok_of_forget (eval H e ρ) (v, k.0) k.1), k.3)),
  (λ x. ok_of_forget (direct H B e ρ 0) (v, w) ((direct_sim H B e ρ).sim 0 zero-le
      ∙ rw (ap forget x.0) (within_of B 0 v w w (sym (zero-add w)) x.1))),
)
