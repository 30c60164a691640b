-- The occurrences of a vector run stand in the order of the expression's.
use Rattle.std.proofs.Common.{◌≡◌, ℕ, not, List, [], ◌∷◌, ◌++◌, map, length, refl, ap, subst, append_assoc, append-nil, arith}
use Rattle.std.proofs.lemmas.Grind.{common_steps}
use mathlib.Core.Option.{Option, none, some}
use Rattle.refusal.specs.declared.Refusal.{Refusal}
use Rattle.monoid.specs.Segments.{concat, cut}
use Rattle.types.specs.Types.{Ty, list}
use Rattle.lang.specs.Values.{sum_by}
use Rattle.lang.specs.Expr.{Expr, Args, con, group, var, bind, prim, ite, each, over, nil, more}
use Rattle.rules.specs.Outcome.{refusal, Outcome, ok, fail}
use Rattle.rules.specs.Lists.{zip, pack, merge, counts, rows, every}
use Rattle.rules.specs.Environment.{Env}
use Rattle.rules.specs.Joining.{HouseJoin}
use Rattle.rules.specs.Primitives.{apply, failure}
use Rattle.rules.specs.Charges.{join_charge}
use Rattle.rules.specs.Trace.{Charge, Trace, and_then, ◌>>=◌, give, charge, test}
use Rattle.rules.specs.Traces.{batch_trace, batch_traces}
use Rattle.rules.specs.Order.{places, operand_places, InOrder, OrderLaw}

abbrev placed : List Charge → List ℕ
placed cs = map (λ x. x.place) cs

placed_append : (xs ys : List Charge) → placed (xs ++ ys) ≡ placed xs ++ placed ys
placed_append [] ys = refl
placed_append (x ∷ xs) ys = ap (λ ps. x.place ∷ ps) (placed_append xs ys)

order_then : {A C : Type 0} (cs : List Charge) (o : Outcome Refusal A) (g : A → Trace C) (ps qs : List ℕ) → InOrder (cs, o) ps →
    ((a : A) → InOrder (g a) qs) →
    InOrder (and_then cs o g) (ps ++ qs)
order_then cs (ok a) g ps qs s h = grind (arith, common_steps, placed_append, append_assoc)
order_then cs (fail r) g ps qs s h = grind (arith, common_steps, append_assoc)

order_bind : {A C : Type 0} {t : Trace A} {g : A → Trace C} {ps qs : List ℕ} → InOrder t ps → ((a : A) → InOrder (g a) qs) →
    InOrder (t >>= g) (ps ++ qs)
order_bind {t = t} {g} {ps} {qs} s h = order_then t.0 t.1 g ps qs s h

order_charge : {A : Type 0} (p n : ℕ) (a : A) → InOrder (charge p n a) (p ∷ [])
order_charge p n a = record { whole = λ b k. refl; broken = λ f k. absurd cc }

order_give : {A : Type 0} (a : A) → InOrder (give a) []
order_give a = record { whole = λ b k. refl; broken = λ f k. absurd cc }

-- a test and a charge at one place
order_node : {A C : Type 0} (n p : ℕ) (o : Option A) (m : A → ℕ) (u : A → C) → InOrder (test (refusal n p) o >>= λ a. charge p (m a) (u a)) (p ∷ [])
order_node n p none m u = grind (arith, common_steps)
order_node n p (some a) m u = order_charge p (m a) (u a)

module _ (H : HouseJoin) where
  mutual
    unfolding batch_trace places

    pub ordered : {Γ : List Ty} {t : Ty} (e : Expr Γ t) (ρs : List (Env Γ)) → InOrder (batch_trace H e ρs) (places e)
    ordered (con p k) ρs = order_charge p _ _
    ordered (group p e) ρs = order_bind (ordered e ρs) λ vs. order_charge p _ vs
    ordered (var p x) ρs = order_charge p _ _
    ordered (bind p e b) ρs = order_bind (ordered e ρs) λ vs. order_bind (ordered b (zip vs ρs)) λ us. order_charge p _ us
    ordered (prim p o es) ρs = order_bind (ordereds es ρs) λ vss. order_node (failure o) p (every (λ vs. apply H o vs) vss) _ (λ us. us)
    ordered (ite {t = t} p c a b) ρs =
        order_bind (ordered c ρs) λ fs.
        order_bind (order_charge p _ fs) λ fs.
        order_bind (ordered a (pack fs ρs)) λ us.
        order_bind (ordered b (pack (map not fs) ρs)) λ vs. order_bind (order_give (merge fs us vs)) λ ws. order_charge p (sum_by (join_charge t) ws) ws
    ordered (each {b = u} p s f b) ρs =
        order_bind (ordered s ρs) λ xss.
        order_bind (order_charge p _ xss) λ xss.
        order_bind (ordered f (concat (rows xss ρs))) λ fs.
        order_bind (ordered b (pack fs (concat (rows xss ρs)))) λ vs.
        order_bind (order_give (cut vs (counts (map length (rows xss ρs)) fs))) λ us. order_charge p (sum_by (join_charge (list u)) us) us
    ordered (over {b = u} p s b) ρs =
        order_bind (ordered s ρs) λ xss.
        order_bind (order_charge p _ xss) λ xss.
        order_bind (ordered b (concat (rows xss ρs))) λ vs.
        order_bind (order_give (cut vs (map length (rows xss ρs)))) λ us. order_charge p (sum_by (join_charge (list u)) us) us

    pub ordereds : {Γ ts : List Ty} (es : Args Γ ts) (ρs : List (Env Γ)) → InOrder (batch_traces H es ρs) (operand_places es)
    ordereds nil ρs = order_give _
    ordereds (more e es) ρs =
        subst (λ ps. InOrder (batch_traces H (more e es) ρs) (places e ++ ps)) (append-nil (operand_places es))
        (order_bind (ordered e ρs) λ vs. order_bind (ordereds es ρs) λ us. order_give (zip vs us))

pub order_law : OrderLaw
order_law H Γ t e ρs = ordered H e ρs
