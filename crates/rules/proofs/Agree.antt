-- The vector run agrees with the evaluation rules: by induction on the expression.
use Rattle.std.proofs.Common.{◌≡◌, ℕ, ◌+◌, ◌≤◌, Bool, true, false, not, T, leb, List, [], ◌∷◌, map, length, sym, refl, ap, ◌∙◌, subst, add-zero, arith, leb→le}
use Rattle.std.proofs.lemmas.Grind.{common_steps}
use Rattle.monoid.specs.Segments.{concat, cut}
use Rattle.refusal.specs.declared.Refusal.{Refusal}
use Rattle.types.specs.Types.{Ty, list}
use Rattle.lang.specs.Values.{sum_by}
use Rattle.lang.specs.Expr.{scalar, Expr, Args, con, group, var, bind, prim, ite, each, over, nil, more}
use Rattle.rules.specs.Outcome.{refusal, Outcome, ok, fail, Work, ◌>>=◌, cost, all}
use Rattle.rules.specs.Lists.{zip, pack, merge, counts, rows, every}
use Rattle.rules.specs.Environment.{Env}
use Rattle.rules.specs.Joining.{HouseJoin}
use Rattle.rules.specs.Primitives.{apply, failure}
use Rattle.rules.specs.Charges.{prim_charge, ite_fork, fork_each, over_fork, join_charge}
use Rattle.rules.specs.Eval.{eval, evals}
use Rattle.rules.specs.Batch.{batch, batches}
use Rattle.rules.specs.Laws.{Each, no_more, one_more, BatchLaw}
use Rattle.rules.proofs.Cases.{ok_inj}
use Rattle.rules.proofs.Budget.{Sim, within, fits, fits_true, sim_to, sim_bind, sim_charge, sim_give, sim_test}
use Rattle.rules.proofs.Forget.{forget, forget_bind, forget_cond, forget_lift, forget_keep, forget_all}
use Rattle.rules.proofs.Commute.{node_leaf, node_nil, node_more, node_group, node_bind, node_op, node_ite, node_each, node_over}

module _ (H : HouseJoin) (B : ℕ) where
  mutual
    unfolding batch eval

    pub agree : {Γ : List Ty} {t : Ty} (e : Expr Γ t) (ρs : List (Env Γ)) → Sim B (batch H B e ρs) (all (λ ρ. forget (eval H e ρ)) ρs)
    agree (con p k) ρs = sim_to B (sim_charge B p (length ρs) (map (λ ρ. scalar k) ρs)) (node_leaf (λ ρ. scalar k) ρs)
    agree (group p e) ρs = sim_to B (sim_bind B (agree e ρs) λ vs. sim_charge B p (length ρs) vs) (node_group (λ ρ. forget (eval H e ρ)) ρs
        ∙ simp forget_bind)
    agree (var p x) ρs = grind (arith, common_steps, sim_to, sim_charge, node_leaf)
    agree (bind p e b) ρs =
        sim_to B (sim_bind B (agree e ρs) λ vs. sim_bind B (agree b (zip vs ρs)) λ us. sim_charge B p (length ρs) us)
        (node_bind (λ ρ. forget (eval H e ρ)) (λ q. forget (eval H b q)) ρs ∙ simp forget_bind)
    agree (prim {ts = ts} {t = t} p o es) ρs =
        sim_to B (sim_bind B (agrees es ρs) λ vss. sim_bind B (sim_test B (refusal (failure o) p) (every (λ vs. apply H o vs) vss)) λ us.
        sim_charge B p _ us)
        (node_op (λ ρ. forget (evals H es ρ)) (λ vs. apply H o vs) (prim_charge ts t) ρs ∙ simp (forget_bind, forget_lift))
    agree (ite {t = t} p c a b) ρs =
        sim_to B
        (sim_bind B (agree c ρs) λ fs.
        sim_bind B (sim_charge B p _ fs) λ fs.
        sim_bind B (agree a (pack fs ρs)) λ us.
        sim_bind B (agree b (pack (map not fs) ρs)) λ vs. sim_bind B (sim_give B (merge fs us vs)) λ ws. sim_charge B p (sum_by (join_charge t) ws) ws)
        (node_ite (λ ρ. forget (eval H c ρ)) (λ ρ. forget (eval H a ρ)) (λ ρ. forget (eval H b ρ)) (ite_fork a b) (join_charge t) ρs ∙
        simp (forget_bind, forget_cond))
    agree (each {b = u} p s f b) ρs =
        sim_to B
        (sim_bind B (agree s ρs) λ xss.
        sim_bind B (sim_charge B p _ xss) λ xss.
        sim_bind B (agree f (concat (rows xss ρs))) λ fs.
        sim_bind B (agree b (pack fs (concat (rows xss ρs)))) λ vs.
        sim_bind B (sim_give B (cut vs (counts (map length (rows xss ρs)) fs))) λ us. sim_charge B p (sum_by (join_charge (list u)) us) us)
        (node_each (λ ρ. forget (eval H s ρ)) (λ q. forget (eval H f q)) (λ q. forget (eval H b q)) (fork_each f b) (join_charge (list u)) ρs ∙
        simp (forget_bind, forget_keep))
    agree (over {b = u} p s b) ρs =
        sim_to B
        (sim_bind B (agree s ρs) λ xss.
        sim_bind B (sim_charge B p _ xss) λ xss.
        sim_bind B (agree b (concat (rows xss ρs))) λ vs.
        sim_bind B (sim_give B (cut vs (map length (rows xss ρs)))) λ us. sim_charge B p (sum_by (join_charge (list u)) us) us)
        (node_over (λ ρ. forget (eval H s ρ)) (λ q. forget (eval H b q)) (over_fork b) (join_charge (list u)) ρs ∙ simp (forget_bind, forget_all))

    pub agrees : {Γ ts : List Ty} (es : Args Γ ts) (ρs : List (Env Γ)) → Sim B (batches H B es ρs) (all (λ ρ. forget (evals H es ρ)) ρs)
    agrees nil ρs = sim_to B (sim_give B (map (λ ρ. tt) ρs)) (node_nil (λ ρ. tt) ρs)
    agrees (more e es) ρs =
        sim_to B (sim_bind B (agree e ρs) λ vs. sim_bind B (agrees es ρs) λ us. sim_give B (zip vs us))
        (node_more (λ ρ. forget (eval H e ρ)) (λ ρ. forget (evals H es ρ)) ρs ∙ simp forget_bind)

-- both ways
pub ok_of_forget : {E A : Type 0} (x : Outcome E A) (a : A) → forget x ≡ ok a → x ≡ ok a
ok_of_forget (ok b) a h = cc
ok_of_forget (fail e) a h = cc

pub within_ok : {A : Type 0} (B c : ℕ) (m : Work (Unit {0}) A) (a : A) (d : ℕ) → within B c m ≡ ok (a, d) →
    (w : ℕ) × (m ≡ ok (a, w)) × (d ≡ c + w) × (d ≤ B)
within_ok B c (fail e) a d h = absurd cc
within_ok B c (ok p) a d h = by (leb (c + p.1) B) (leb→le (c + p.1) B) h
  where
    by : (b : Bool) → (T b → c + p.1 ≤ B) → fits b p.0 (c + p.1) ≡ ok (a, d) →
        (w : ℕ) × ◌≡◌ {A = Work (Unit {0}) _} (ok p) (ok (a, w)) × (d ≡ c + w) × (d ≤ B)
    by true le h =
        let q = ok_inj {E = Unit {0}} (p.0, c + p.1) (a, d) h in
        let e : d ≡ c + p.1 = sym (ap (λ r. r.1) q) in
        let k : c + p.1 ≤ B = le tt in
        (p.1, ap (λ x. ok (x, p.1)) (ap (λ r. r.0) q), e, omega arith)
    by false le h = absurd cc

pub within_of : {A : Type 0} (B c : ℕ) (a : A) (d w : ℕ) → d ≡ c + w → d ≤ B → within B c (ok (a, w)) ≡ ok (a, d)
within_of B c a d w e h = rw (← e) (fits_true B a d h)

-- all in turn answer exactly when each does
pub each_of : {R A : Type 0} (f : R → Work Refusal A) (ρs : List R) (vs : List A) (w : ℕ) → all f ρs ≡ ok (vs, w) → Each f ρs vs w
each_of f [] vs w h =
    let q = ok_inj {E = Refusal} ([], 0) (vs, w) h in
    subst (λ x. Each f [] x.0 x.1) q no_more
each_of {R} {A} f (ρ ∷ ρs) vs w h = by (f ρ) refl (all f ρs) refl (each_of f ρs) h
  where
    by : (x : Work Refusal A) → f ρ ≡ x → (y : Work Refusal (List A)) → all f ρs ≡ y →
        ((us : List A) (n : ℕ) → all f ρs ≡ ok (us, n) → Each f ρs us n) →
        (x >>= λ v. y >>= λ us. cost 0 (v ∷ us)) ≡ ok (vs, w) → Each f (ρ ∷ ρs) vs w
    by (fail e) p y q rest h = absurd cc
    by (ok x) p (fail e) q rest h = absurd cc
    by (ok x) p (ok y) q rest h =
        let k = ok_inj {E = Refusal} (x.0 ∷ y.0, x.1 + (y.1 + 0)) (vs, w) h in
        let k' : ◌≡◌ {A = List A × ℕ} (x.0 ∷ y.0, x.1 + y.1) (vs, w) = ap (λ n. (x.0 ∷ y.0, x.1 + n)) (sym (add-zero y.1)) ∙ k in
        subst (λ z. Each f (ρ ∷ ρs) z.0 z.1) k' (one_more p (rest y.0 y.1 q))

pub all_of : {R A : Type 0} {f : R → Work Refusal A} {ρs : List R} {vs : List A} {w : ℕ} → Each f ρs vs w → all f ρs ≡ ok (vs, w)
all_of no_more = refl
all_of (one_more p r) = simp (p, all_of r, add-zero)

pub batch_law : BatchLaw
batch_law H B Γ t e ρs c h vs d = (
  (λ x.
      let k = within_ok B c (all (λ ρ. forget (eval H e ρ)) ρs) vs d (sym ((agree H B e ρs).sim c h) ∙ ap forget x) in (
        k.0,
        each_of (λ ρ. eval H e ρ) ρs vs k.0 (ok_of_forget (all (λ ρ. eval H e ρ) ρs) (vs, k.0) (forget_all (λ ρ. eval H e ρ) ρs
            ∙ k.1)),
        k.2,
        k.3,
      )),
  (λ x.
      ok_of_forget (batch H B e ρs c) (vs, d)
      ((agree H B e ρs).sim c h ∙ rw (sym (forget_all (λ ρ. eval H e ρ) ρs) ∙ ap forget (all_of x.1)) (within_of B c vs d x.0 x.2 x.3))),
)
