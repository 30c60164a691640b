-- The direct run: one evaluation, each element finished before the next, under a budget. At one node a failure goes before the charge.
use Rattle.std.specs.Prelude.{ℕ, List}
use Rattle.types.specs.Types.{Ty, list}
use Rattle.lang.specs.Values.{Val}
use Rattle.lang.specs.Expr.{scalar, Expr, Args, con, group, var, bind, prim, ite, each, over, nil, more}
use Rattle.rules.specs.Outcome.{refusal}
use Rattle.rules.specs.Environment.{Env, look}
use Rattle.rules.specs.Joining.{HouseJoin}
use Rattle.rules.specs.Primitives.{apply, failure}
use Rattle.rules.specs.Charges.{prim_charge, ite_fork, fork_each, over_fork, join_charge}
use Rattle.rules.specs.Run.{Run, ◌>>=◌, give, test, charge, branch, each_run, keep_run}

module _ (H : HouseJoin) (B : ℕ) where
  unfoldable mutual
    pub direct : {Γ : List Ty} {t : Ty} → Expr Γ t → Env Γ → Run (Val t)
    direct (con p k) ρ = charge B p 1 (scalar k)
    direct (group p e) ρ = direct e ρ >>= λ v. charge B p 1 v
    direct (var p x) ρ = charge B p 1 (look x ρ)
    direct (bind p e b) ρ = direct e ρ >>= λ v. direct b (v, ρ) >>= λ u. charge B p 1 u
    direct (prim {ts = ts} {t = t} p o es) ρ =
        directs es ρ >>= λ vs. test (refusal (failure o) p) (apply H o vs) >>= λ v. charge B p (prim_charge ts t vs v) v
    direct (ite {t = t} p c a b) ρ =
        direct c ρ >>= λ x.
        charge B p (ite_fork a b ρ) x >>= λ x. branch x (direct a ρ) (direct b ρ) >>= λ v. charge B p (join_charge t v) v
    direct (each {b = u} p s f b) ρ =
        direct s ρ >>= λ xs.
        charge B p (fork_each f b ρ xs) xs >>= λ xs.
        keep_run (λ x. direct f (x, ρ)) (λ x. direct b (x, ρ)) xs >>= λ vs. charge B p (join_charge (list u) vs) vs
    direct (over {b = u} p s b) ρ =
        direct s ρ >>= λ xs.
        charge B p (over_fork b ρ xs) xs >>= λ xs.
        each_run (λ x. direct b (x, ρ)) xs >>= λ vs. charge B p (join_charge (list u) vs) vs

    pub directs : {Γ ts : List Ty} → Args Γ ts → Env Γ → Run (Env ts)
    directs nil ρ = give tt
    directs (more e es) ρ = direct e ρ >>= λ v. directs es ρ >>= λ vs. give (v, vs)
