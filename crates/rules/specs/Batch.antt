-- The vector run: all evaluations of an occurrence together, occurrence by occurrence, under a budget. One failure among them stops the
-- run at the occurrence, before its charge.
use Rattle.std.specs.Prelude.{ℕ, not, List, map, length}
use Rattle.monoid.specs.Segments.{concat, cut}
use Rattle.types.specs.Types.{Ty, list}
use Rattle.lang.specs.Values.{Val, sum_by}
use Rattle.lang.specs.Expr.{scalar, Expr, Args, con, group, var, bind, prim, ite, each, over, nil, more}
use Rattle.rules.specs.Outcome.{refusal}
use Rattle.rules.specs.Lists.{zip, pack, merge, counts, rows, every}
use Rattle.rules.specs.Environment.{Env, look}
use Rattle.rules.specs.Joining.{HouseJoin}
use Rattle.rules.specs.Primitives.{apply, failure}
use Rattle.rules.specs.Charges.{prim_charge, ite_fork, fork_each, over_fork, join_charge}
use Rattle.rules.specs.Run.{Run, ◌>>=◌, give, test, charge}

module _ (H : HouseJoin) (B : ℕ) where
  unfoldable mutual
    pub batch : {Γ : List Ty} {t : Ty} → Expr Γ t → List (Env Γ) → Run (List (Val t))
    batch (con p k) ρs = charge B p (length ρs) (map (λ ρ. scalar k) ρs)
    batch (group p e) ρs = batch e ρs >>= λ vs. charge B p (length ρs) vs
    batch (var p x) ρs = charge B p (length ρs) (map (λ ρ. look x ρ) ρs)
    batch (bind p e b) ρs =
        batch e ρs >>= λ vs. batch b (zip vs ρs) >>= λ us. charge B p (length ρs) us
    batch (prim {ts = ts} {t = t} p o es) ρs =
        batches es ρs >>= λ vss.
        test (refusal (failure o) p) (every (λ vs. apply H o vs) vss) >>= λ us.
        charge B p (sum_by (λ q. prim_charge ts t q.1 q.0) (zip us vss)) us
    batch (ite {t = t} p c a b) ρs =
        batch c ρs >>= λ fs.
        charge B p (sum_by (ite_fork a b) ρs) fs >>= λ fs.
        batch a (pack fs ρs) >>= λ us.
        batch b (pack (map not fs) ρs) >>= λ vs.
        give (merge fs us vs) >>= λ ws. charge B p (sum_by (join_charge t) ws) ws
    batch (each {b = u} p s f b) ρs =
        batch s ρs >>= λ xss.
        charge B p (sum_by (λ q. fork_each f b q.1 q.0) (zip xss ρs)) xss >>= λ xss.
        batch f (concat (rows xss ρs)) >>= λ fs.
        batch b (pack fs (concat (rows xss ρs))) >>= λ vs.
        give (cut vs (counts (map length (rows xss ρs)) fs)) >>= λ us. charge B p (sum_by (join_charge (list u)) us) us
    batch (over {b = u} p s b) ρs =
        batch s ρs >>= λ xss.
        charge B p (sum_by (λ q. over_fork b q.1 q.0) (zip xss ρs)) xss >>= λ xss.
        batch b (concat (rows xss ρs)) >>= λ vs.
        give (cut vs (map length (rows xss ρs))) >>= λ us. charge B p (sum_by (join_charge (list u)) us) us

    pub batches : {Γ ts : List Ty} → Args Γ ts → List (Env Γ) → Run (List (Env ts))
    batches nil ρs = give (map (λ ρ. tt) ρs)
    batches (more e es) ρs = batch e ρs >>= λ vs. batches es ρs >>= λ us. give (zip vs us)
