-- A run is what its budget makes of its occurrences: by induction on the expression, for both kinds.
use Rattle.std.proofs.Common.{◌≡◌, ℕ, ◌+◌, Bool, true, false, cond, not, leb, List, [], ◌∷◌, ◌++◌, map, length, sym, refl, ap, ◌∙◌}
use mathlib.Core.Path.{fun_ext}
use mathlib.Core.Option.{Option, none, some}
use Rattle.refusal.specs.declared.Refusal.{Refusal}
use Rattle.monoid.specs.Segments.{concat, cut}
use Rattle.types.specs.Types.{Ty, list}
use Rattle.lang.specs.Values.{sum_by}
use Rattle.lang.specs.Expr.{Expr, Args, con, group, var, bind, prim, ite, each, over, nil, more}
use Rattle.rules.specs.Outcome.{refusal, Outcome, ok, fail}
use Rattle.rules.specs.Lists.{zip, pack, merge, counts, rows, every}
use Rattle.rules.specs.Environment.{Env}
use Rattle.rules.specs.Joining.{HouseJoin}
use Rattle.rules.specs.Primitives.{apply, failure}
use Rattle.rules.specs.Charges.{join_charge}
use Rattle.rules.specs.Run as Run
use Rattle.rules.specs.Run.{Run, go, charged, branch, each_run, keep_run}
use Rattle.rules.specs.Direct.{direct, directs}
use Rattle.rules.specs.Batch.{batch, batches}
use Rattle.rules.specs.Trace.{Charge, Trace, and_then, ◌>>=◌, give, charge, test, each_trace, keep_trace}
use Rattle.rules.specs.Traces.{direct_trace, direct_traces, batch_trace, batch_traces}
use Rattle.rules.specs.Laws.{BatchTraceLaw, DirectTraceLaw}
use Rattle.rules.proofs.Judge.{passes, judge, judge_cons, judge-is-judged}

-- the run r is the judgement of t
pub record Is (B : ℕ) {A : Type 0} (r : Run A) (t : Trace A) : Type 0 where
  pub is : (c : ℕ) → r c ≡ judge B t.0 t.1 c

module _ (B : ℕ) where
  go_passes : {A C : Type 0} (b : Bool) (p : ℕ) (x : Outcome Refusal (A × ℕ)) (f : A → Run C) → go (passes b p x) f ≡ passes b p (go x f)
  go_passes true p x f = refl
  go_passes false p x f = refl

  judge-then : {A C : Type 0} (cs : List Charge) (a : A) (f : A → Trace C) (c : ℕ) →
      go (judge B cs (ok a) c) (λ a. judge B (f a).0 (f a).1) ≡ judge B (cs ++ (f a).0) (f a).1 c
  judge-then [] a f c = refl
  judge-then (x ∷ xs) a f c =
      go_passes (leb (c + x.amount) B) x.place (judge B xs (ok a) (c + x.amount)) (λ a. judge B (f a).0 (f a).1)
      ∙ ap (λ r. passes (leb (c + x.amount) B) x.place r) (judge-then xs a f (c + x.amount)) ∙ sym (judge_cons B x (xs ++ (f a).0) (f a).1 c)

  judge_stop : {A C : Type 0} (cs : List Charge) (e : Refusal) (f : A → Trace C) (c : ℕ) →
      go (judge B cs (fail e) c) (λ a. judge B (f a).0 (f a).1) ≡ judge B cs (fail e) c
  judge_stop [] e f c = refl
  judge_stop (x ∷ xs) e f c =
      go_passes (leb (c + x.amount) B) x.place (judge B xs (fail e) (c + x.amount)) (λ a. judge B (f a).0 (f a).1)
      ∙ ap (λ r. passes (leb (c + x.amount) B) x.place r) (judge_stop xs e f (c + x.amount))

  judge_bind : {A C : Type 0} (cs : List Charge) (o : Outcome Refusal A) (f : A → Trace C) (c : ℕ) →
      go (judge B cs o c) (λ a. judge B (f a).0 (f a).1) ≡ judge B (and_then cs o f).0 (and_then cs o f).1 c
  judge_bind cs (ok a) f c = judge-then cs a f c
  judge_bind cs (fail e) f c = judge_stop cs e f c

  is_bind : {A C : Type 0} {r : Run A} {t : Trace A} {f : A → Run C} {g : A → Trace C} → Is B r t → ((a : A) → Is B (f a) (g a)) →
      Is B (Run.◌>>=◌ r f) (t >>= g)
  is_bind {r = r} {t} {f} {g} s h =
      record {
        is = λ c. ap (λ x. go x f) (s.is c) ∙ ap (λ k. go (judge B t.0 t.1 c) k) (fun_ext λ a. fun_ext λ d. (h a).is d)
            ∙ judge_bind t.0 t.1 g c;
      }

  is-charge : {A : Type 0} (p n : ℕ) (a : A) → Is B (Run.charge B p n a) (charge p n a)
  is-charge p n a = record { is = λ c. by c (leb (c + n) B) }
    where
      by : (c : ℕ) (b : Bool) → charged b p (c + n) a ≡ passes b p (ok (a, c + n))
      by c true = refl
      by c false = refl

  is-give : {A : Type 0} (a : A) → Is B (Run.give a) (give a)
  is-give a = record { is = λ c. refl }

  is-test : {A : Type 0} (e : Refusal) (o : Option A) → Is B (Run.test e o) (test e o)
  is-test e none = record { is = λ c. refl }
  is-test e (some a) = record { is = λ c. refl }

  is-branch : {A : Type 0} (t : Bool) {f g : Run A} {x y : Trace A} → Is B f x → Is B g y → Is B (branch t f g) (cond t x y)
  is-branch true s u = s
  is-branch false s u = u

  is_each : {A C : Type 0} (f : A → Run C) (g : A → Trace C) → ((a : A) → Is B (f a) (g a)) → (xs : List A) → Is B (each_run f xs) (each_trace g xs)
  is_each f g s [] = is-give []
  is_each f g s (x ∷ xs) = is_bind (s x) λ y. is_bind (is_each f g s xs) λ ys. is-give (y ∷ ys)

  is-keep : {A C : Type 0} (p : A → Run Bool) (q : A → Trace Bool) (f : A → Run C) (g : A → Trace C) → ((a : A) → Is B (p a) (q a)) →
      ((a : A) → Is B (f a) (g a)) →
      (xs : List A) → Is B (keep_run p f xs) (keep_trace q g xs)
  is-keep p q f g r s [] = is-give []
  is-keep p q f g r s (x ∷ xs) =
      is_bind (r x) λ t. is-branch t (is_bind (s x) λ y. is_bind (is-keep p q f g r s xs) λ ys. is-give (y ∷ ys)) (is-keep p q f g r s xs)

module _ (H : HouseJoin) (B : ℕ) where
  mutual
    unfolding batch batch_trace

    pub batched : {Γ : List Ty} {t : Ty} (e : Expr Γ t) (ρs : List (Env Γ)) → Is B (batch H B e ρs) (batch_trace H e ρs)
    batched (con p k) ρs = is-charge B p _ _
    batched (group p e) ρs = is_bind B (batched e ρs) λ vs. is-charge B p _ vs
    batched (var p x) ρs = is-charge B p _ _
    batched (bind p e b) ρs = is_bind B (batched e ρs) λ vs. is_bind B (batched b (zip vs ρs)) λ us. is-charge B p _ us
    batched (prim p o es) ρs =
        is_bind B (batcheds es ρs) λ vss. is_bind B (is-test B (refusal (failure o) p) (every (λ vs. apply H o vs) vss)) λ us. is-charge B p _ us
    batched (ite {t = t} p c a b) ρs =
        is_bind B (batched c ρs) λ fs.
        is_bind B (is-charge B p _ fs) λ fs.
        is_bind B (batched a (pack fs ρs)) λ us.
        is_bind B (batched b (pack (map not fs) ρs)) λ vs. is_bind B (is-give B (merge fs us vs)) λ ws. is-charge B p (sum_by (join_charge t) ws) ws
    batched (each {b = u} p s f b) ρs =
        is_bind B (batched s ρs) λ xss.
        is_bind B (is-charge B p _ xss) λ xss.
        is_bind B (batched f (concat (rows xss ρs))) λ fs.
        is_bind B (batched b (pack fs (concat (rows xss ρs)))) λ vs.
        is_bind B (is-give B (cut vs (counts (map length (rows xss ρs)) fs))) λ us. is-charge B p (sum_by (join_charge (list u)) us) us
    batched (over {b = u} p s b) ρs =
        is_bind B (batched s ρs) λ xss.
        is_bind B (is-charge B p _ xss) λ xss.
        is_bind B (batched b (concat (rows xss ρs))) λ vs.
        is_bind B (is-give B (cut vs (map length (rows xss ρs)))) λ us. is-charge B p (sum_by (join_charge (list u)) us) us

    pub batcheds : {Γ ts : List Ty} (es : Args Γ ts) (ρs : List (Env Γ)) → Is B (batches H B es ρs) (batch_traces H es ρs)
    batcheds nil ρs = is-give B _
    batcheds (more e es) ρs = is_bind B (batched e ρs) λ vs. is_bind B (batcheds es ρs) λ us. is-give B (zip vs us)

  mutual
    unfolding direct direct_trace

    pub stepped : {Γ : List Ty} {t : Ty} (e : Expr Γ t) (ρ : Env Γ) → Is B (direct H B e ρ) (direct_trace H e ρ)
    stepped (con p k) ρ = is-charge B p _ _
    stepped (group p e) ρ = is_bind B (stepped e ρ) λ v. is-charge B p _ v
    stepped (var p x) ρ = is-charge B p _ _
    stepped (bind p e b) ρ = is_bind B (stepped e ρ) λ v. is_bind B (stepped b (v, ρ)) λ u. is-charge B p _ u
    stepped (prim p o es) ρ = is_bind B (steppeds es ρ) λ vs. is_bind B (is-test B (refusal (failure o) p) (apply H o vs)) λ v. is-charge B p _ v
    stepped (ite {t = t} p c a b) ρ =
        is_bind B (stepped c ρ) λ x.
        is_bind B (is-charge B p _ x) λ x. is_bind B (is-branch B x (stepped a ρ) (stepped b ρ)) λ v. is-charge B p (join_charge t v) v
    stepped (each {b = u} p s f b) ρ =
        is_bind B (stepped s ρ) λ xs.
        is_bind B (is-charge B p _ xs) λ xs.
        is_bind B
        (is-keep B (λ x. direct H B f (x, ρ)) (λ x. direct_trace H f (x, ρ)) (λ x. direct H B b (x, ρ)) (λ x. direct_trace H b (x, ρ))
        (λ x. stepped f (x, ρ)) (λ x. stepped b (x, ρ)) xs) λ vs. is-charge B p (join_charge (list u) vs) vs
    stepped (over {b = u} p s b) ρ =
        is_bind B (stepped s ρ) λ xs.
        is_bind B (is-charge B p _ xs) λ xs.
        is_bind B (is_each B (λ x. direct H B b (x, ρ)) (λ x. direct_trace H b (x, ρ)) (λ x. stepped b (x, ρ)) xs) λ vs.
        is-charge B p (join_charge (list u) vs) vs

    pub steppeds : {Γ ts : List Ty} (es : Args Γ ts) (ρ : Env Γ) → Is B (directs H B es ρ) (direct_traces H es ρ)
    steppeds nil ρ = is-give B _
    steppeds (more e es) ρ = is_bind B (stepped e ρ) λ v. is_bind B (steppeds es ρ) λ vs. is-give B (v, vs)

pub batch_trace_law : BatchTraceLaw
batch_trace_law H B Γ t e ρs c h = judge-is-judged B c h (batch_trace H e ρs) (batch H B e ρs c) ((batched H B e ρs).is c)

pub direct_trace_law : DirectTraceLaw
direct_trace_law H B Γ t e ρ c h = judge-is-judged B c h (direct_trace H e ρ) (direct H B e ρ c) ((stepped H B e ρ).is c)
