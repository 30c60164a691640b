-- The occurrences of the direct run and of the vector run.
use Rattle.std.specs.Prelude.{cond, not, List, map, length}
use Rattle.monoid.specs.Segments.{concat, cut}
use Rattle.types.specs.Types.{Ty, list}
use Rattle.lang.specs.Values.{Val, sum_by}
use Rattle.lang.specs.Expr.{scalar, Expr, Args, con, group, var, bind, prim, ite, each, over, nil, more}
use Rattle.rules.specs.Outcome.{refusal}
use Rattle.rules.specs.Lists.{zip, pack, merge, counts, rows, every}
use Rattle.rules.specs.Environment.{Env, look}
use Rattle.rules.specs.Joining.{HouseJoin}
use Rattle.rules.specs.Primitives.{apply, failure}
use Rattle.rules.specs.Charges.{prim_charge, ite_fork, fork_each, over_fork, join_charge}
use Rattle.rules.specs.Trace.{Trace, ◌>>=◌, give, charge, test, each_trace, keep_trace}

module _ (H : HouseJoin) where
  -- one evaluation, each element finished before the next
  unfoldable mutual
    pub direct_trace : {Γ : List Ty} {t : Ty} → Expr Γ t → Env Γ → Trace (Val t)
    direct_trace (con p k) ρ = charge p 1 (scalar k)
    direct_trace (group p e) ρ = direct_trace e ρ >>= λ v. charge p 1 v
    direct_trace (var p x) ρ = charge p 1 (look x ρ)
    direct_trace (bind p e b) ρ = direct_trace e ρ >>= λ v. direct_trace b (v, ρ) >>= λ u. charge p 1 u
    direct_trace (prim {ts = ts} {t = t} p o es) ρ =
        direct_traces es ρ >>= λ vs. test (refusal (failure o) p) (apply H o vs) >>= λ v. charge p (prim_charge ts t vs v) v
    direct_trace (ite {t = t} p c a b) ρ =
        direct_trace c ρ >>= λ x.
        charge p (ite_fork a b ρ) x >>= λ x. cond x (direct_trace a ρ) (direct_trace b ρ) >>= λ v. charge p (join_charge t v) v
    direct_trace (each {b = u} p s f b) ρ =
        direct_trace s ρ >>= λ xs.
        charge p (fork_each f b ρ xs) xs >>= λ xs.
        keep_trace (λ x. direct_trace f (x, ρ)) (λ x. direct_trace b (x, ρ)) xs >>= λ vs. charge p (join_charge (list u) vs) vs
    direct_trace (over {b = u} p s b) ρ =
        direct_trace s ρ >>= λ xs.
        charge p (over_fork b ρ xs) xs >>= λ xs.
        each_trace (λ x. direct_trace b (x, ρ)) xs >>= λ vs. charge p (join_charge (list u) vs) vs

    pub direct_traces : {Γ ts : List Ty} → Args Γ ts → Env Γ → Trace (Env ts)
    direct_traces nil ρ = give tt
    direct_traces (more e es) ρ = direct_trace e ρ >>= λ v. direct_traces es ρ >>= λ vs. give (v, vs)

  -- all evaluations of an occurrence together
  unfoldable mutual
    pub batch_trace : {Γ : List Ty} {t : Ty} → Expr Γ t → List (Env Γ) → Trace (List (Val t))
    batch_trace (con p k) ρs = charge p (length ρs) (map (λ ρ. scalar k) ρs)
    batch_trace (group p e) ρs = batch_trace e ρs >>= λ vs. charge p (length ρs) vs
    batch_trace (var p x) ρs = charge p (length ρs) (map (λ ρ. look x ρ) ρs)
    batch_trace (bind p e b) ρs = batch_trace e ρs >>= λ vs. batch_trace b (zip vs ρs) >>= λ us. charge p (length ρs) us
    batch_trace (prim {ts = ts} {t = t} p o es) ρs =
        batch_traces es ρs >>= λ vss.
        test (refusal (failure o) p) (every (λ vs. apply H o vs) vss) >>= λ us.
        charge p (sum_by (λ q. prim_charge ts t q.1 q.0) (zip us vss)) us
    batch_trace (ite {t = t} p c a b) ρs =
        batch_trace c ρs >>= λ fs.
        charge p (sum_by (ite_fork a b) ρs) fs >>= λ fs.
        batch_trace a (pack fs ρs) >>= λ us.
        batch_trace b (pack (map not fs) ρs) >>= λ vs.
        give (merge fs us vs) >>= λ ws. charge p (sum_by (join_charge t) ws) ws
    batch_trace (each {b = u} p s f b) ρs =
        batch_trace s ρs >>= λ xss.
        charge p (sum_by (λ q. fork_each f b q.1 q.0) (zip xss ρs)) xss >>= λ xss.
        batch_trace f (concat (rows xss ρs)) >>= λ fs.
        batch_trace b (pack fs (concat (rows xss ρs))) >>= λ vs.
        give (cut vs (counts (map length (rows xss ρs)) fs)) >>= λ us. charge p (sum_by (join_charge (list u)) us) us
    batch_trace (over {b = u} p s b) ρs =
        batch_trace s ρs >>= λ xss.
        charge p (sum_by (λ q. over_fork b q.1 q.0) (zip xss ρs)) xss >>= λ xss.
        batch_trace b (concat (rows xss ρs)) >>= λ vs.
        give (cut vs (map length (rows xss ρs))) >>= λ us. charge p (sum_by (join_charge (list u)) us) us

    pub batch_traces : {Γ ts : List Ty} → Args Γ ts → List (Env Γ) → Trace (List (Env ts))
    batch_traces nil ρs = give (map (λ ρ. tt) ρs)
    batch_traces (more e es) ρs = batch_trace e ρs >>= λ vs. batch_traces es ρs >>= λ us. give (zip vs us)
