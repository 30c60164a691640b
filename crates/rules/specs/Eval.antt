-- The evaluation rules: the value and the work of an expression in an environment, or the number and place of its first failure.
use Rattle.std.specs.Prelude.{cond, List}
use Rattle.refusal.specs.declared.Refusal.{Refusal}
use Rattle.types.specs.Types.{Ty, list}
use Rattle.lang.specs.Values.{Val}
use Rattle.lang.specs.Expr.{scalar, Expr, Args, con, group, var, bind, prim, ite, each, over, nil, more}
use Rattle.rules.specs.Outcome.{refusal, Work, ◌>>=◌, cost, lift, all, keep}
use Rattle.rules.specs.Environment.{Env, look}
use Rattle.rules.specs.Joining.{HouseJoin}
use Rattle.rules.specs.Primitives.{apply, failure}
use Rattle.rules.specs.Charges.{prim_charge, ite_fork, fork_each, over_fork, join_charge}

module _ (H : HouseJoin) where
  unfoldable mutual
    pub eval : {Γ : List Ty} {t : Ty} → Expr Γ t → Env Γ → Work Refusal (Val t)
    eval (con p k) ρ = cost 1 (scalar k)
    eval (group p e) ρ = eval e ρ >>= λ v. cost 1 v
    eval (var p x) ρ = cost 1 (look x ρ)
    eval (bind p e b) ρ = eval e ρ >>= λ v. eval b (v, ρ) >>= λ u. cost 1 u
    eval (prim {ts = ts} {t = t} p o es) ρ =
        evals es ρ >>= λ vs. lift (refusal (failure o) p) (apply H o vs) >>= λ v. cost (prim_charge ts t vs v) v
    eval (ite {t = t} p c a b) ρ =
        eval c ρ >>= λ x. cost (ite_fork a b ρ) x >>= λ x. cond x (eval a ρ) (eval b ρ) >>= λ v. cost (join_charge t v) v
    eval (each {b = u} p s f b) ρ =
        eval s ρ >>= λ xs.
        cost (fork_each f b ρ xs) xs >>= λ xs.
        keep (λ x. eval f (x, ρ)) (λ x. eval b (x, ρ)) xs >>= λ vs. cost (join_charge (list u) vs) vs
    eval (over {b = u} p s b) ρ =
        eval s ρ >>= λ xs.
        cost (over_fork b ρ xs) xs >>= λ xs. all (λ x. eval b (x, ρ)) xs >>= λ vs. cost (join_charge (list u) vs) vs

    -- operands from the left
    pub evals : {Γ ts : List Ty} → Args Γ ts → Env Γ → Work Refusal (Env ts)
    evals nil ρ = cost 0 tt
    evals (more e es) ρ = eval e ρ >>= λ v. evals es ρ >>= λ vs. cost 0 (v, vs)
