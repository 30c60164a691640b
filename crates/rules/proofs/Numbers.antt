-- Only a zero divisor, a place outside and lengths that do not fit make a primitive fail.
use Rattle.std.proofs.Common.{◌≡◌, ℕ, Bool, true, false, cond, not, ◌⊎◌, List, [], ◌∷◌, map, length, sym, ap, subst, inl, inr, zero-le}
use mathlib.Core.Option.{Option, none, some}
use Rattle.refusal.specs.declared.Refusal.{Refusal}
use Rattle.monoid.specs.Segments.{concat, cut}
use Rattle.types.specs.Types.{Ty, list}
use Rattle.grammar.specs.declared.occurrence.Infix.TheVariants.{Add, Subtract, Multiply, Divide, Remainder, Same, Less}
use Rattle.lang.specs.Values.{sum_by}
use Rattle.lang.specs.Expr.{Op, infix_op, mkpair, first, second, bracket, hollow, index, len_op, range_op, flat_op, part_op, scan_op, reduce_op}
use Rattle.lang.specs.Expr.{Expr, Args, con, group, var, bind, prim, ite, each, over, nil, more}
use Rattle.rules.specs.Outcome.{refusal, Outcome, ok, fail}
use Rattle.rules.specs.Lists.{zip, pack, merge, counts, rows, cons_o, every}
use Rattle.rules.specs.Environment.{Env}
use Rattle.rules.specs.Joining.{HouseJoin}
use Rattle.rules.specs.Primitives.{apply, failure}
use Rattle.rules.specs.Charges.{join_charge}
use Rattle.rules.specs.Trace.{Charge, Trace, and_then, ◌>>=◌, charge, test, each_trace, keep_trace}
use Rattle.rules.specs.Traces.{direct_trace, direct_traces, batch_trace, batch_traces}
use Rattle.rules.specs.Laws.{Judged}
use Rattle.rules.specs.Numbers.{Failing, zero_divisor, no_place, no_parts, Refusing, over_budget, failing, NumbersLaw}
use Rattle.rules.proofs.Traces.{batch_trace_law, direct_trace_law}
use Rattle.rules.proofs.Works.{work_law}

-- no none
pub data Sure {A : Type 0} : Option A → Type 0 where
  sure : (a : A) → Sure (some a)

-- a primitive has a failure's number, or always gives something
pub one_or_other : (H : HouseJoin) {ts : List Ty} {t : Ty} (o : Op ts t) → Failing (failure o) ⊎ ((vs : Env ts) → Sure (apply H o vs))
one_or_other H (infix_op Add) = inr λ vs. sure _
one_or_other H (infix_op Subtract) = inr λ vs. sure _
one_or_other H (infix_op Multiply) = inr λ vs. sure _
one_or_other H (infix_op Divide) = inl zero_divisor
one_or_other H (infix_op Remainder) = inl zero_divisor
one_or_other H (infix_op Same) = inr λ vs. sure _
one_or_other H (infix_op Less) = inr λ vs. sure _
one_or_other H mkpair = inr λ vs. sure _
one_or_other H first = inr λ vs. sure _
one_or_other H second = inr λ vs. sure _
one_or_other H (bracket k a) = inr λ vs. sure _
one_or_other H (hollow a) = inr λ vs. sure _
one_or_other H index = inl no_place
one_or_other H len_op = inr λ vs. sure _
one_or_other H range_op = inr λ vs. sure _
one_or_other H flat_op = inr λ vs. sure _
one_or_other H part_op = inl no_parts
one_or_other H (scan_op o) = inr λ vs. sure _
one_or_other H (reduce_op o) = inr λ vs. sure _

sure_cons : {A : Type 0} {o : Option A} {os : Option (List A)} → Sure o → Sure os → Sure (cons_o o os)
sure_cons (sure a) (sure b) = sure (a ∷ b)

sure_every : {A C : Type 0} (f : A → Option C) → ((a : A) → Sure (f a)) → (xs : List A) → Sure (every f xs)
sure_every f h [] = sure []
sure_every f h (x ∷ xs) = sure_cons (h x) (sure_every f h xs)

-- the failure at the end of a trace has one of the three numbers
pub record Named {A : Type 0} (t : Trace A) : Type 0 where
  pub named : (f : Refusal) → t.1 ≡ fail f → Failing f.number

named-then : {A C : Type 0} (cs : List Charge) (o : Outcome Refusal A) (g : A → Trace C) → Named (cs, o) → ((a : A) → Named (g a)) →
    Named (and_then cs o g)
named-then cs (ok a) g s h = record { named = (h a).named }
named-then cs (fail r) g s h = record { named = λ f k. s.named f (ap fail (cc)) }

named_bind : {A C : Type 0} {t : Trace A} {g : A → Trace C} → Named t → ((a : A) → Named (g a)) → Named (t >>= g)
named_bind {t = t} {g} s h = named-then t.0 t.1 g s h

named_ok : {A : Type 0} (cs : List Charge) (a : A) → Named (cs, ok a)
named_ok cs a = record { named = λ f k. absurd cc }

named-charge : {A : Type 0} (p n : ℕ) (a : A) → Named (charge p n a)
named-charge p n a = named_ok _ a

named-test : {A : Type 0} (n p : ℕ) (o : Option A) → Failing n ⊎ Sure o → Named (test (refusal n p) o)
named-test n p none (inl h) = record { named = λ f k. let e : refusal n p ≡ f = cc in subst (λ (r : Refusal). Failing r.number) e h }
named-test n p (some a) (inl h) = named_ok [] a
named-test n p _ (inr (sure a)) = named_ok [] a

named_cond : {A : Type 0} (b : Bool) {x y : Trace A} → Named x → Named y → Named (cond b x y)
named_cond true s u = s
named_cond false s u = u

named_each : {A C : Type 0} (g : A → Trace C) → ((a : A) → Named (g a)) → (xs : List A) → Named (each_trace g xs)
named_each g s [] = named_ok [] []
named_each g s (x ∷ xs) = named_bind (s x) λ y. named_bind (named_each g s xs) λ ys. named_ok [] (y ∷ ys)

named_keep : {A C : Type 0} (q : A → Trace Bool) (g : A → Trace C) → ((a : A) → Named (q a)) → ((a : A) → Named (g a)) → (xs : List A) →
    Named (keep_trace q g xs)
named_keep q g r s [] = named_ok [] []
named_keep q g r s (x ∷ xs) =
    named_bind (r x) λ t. named_cond t (named_bind (s x) λ y. named_bind (named_keep q g r s xs) λ ys. named_ok [] (y ∷ ys)) (named_keep q g r s xs)

module _ (H : HouseJoin) where
  single : {ts : List Ty} {t : Ty} (o : Op ts t) (vs : Env ts) → Failing (failure o) ⊎ Sure (apply H o vs)
  single o vs = elim (one_or_other H o) [ inl h ↦ inl h | inr h ↦ inr (h vs) ]

  together : {ts : List Ty} {t : Ty} (o : Op ts t) (vss : List (Env ts)) → Failing (failure o) ⊎ Sure (every (λ vs. apply H o vs) vss)
  together o vss = elim (one_or_other H o) [ inl h ↦ inl h | inr h ↦ inr (sure_every (λ vs. apply H o vs) h vss) ]

  mutual
    unfolding direct_trace

    pub direct_named : {Γ : List Ty} {t : Ty} (e : Expr Γ t) (ρ : Env Γ) → Named (direct_trace H e ρ)
    direct_named (con p k) ρ = named_ok _ _
    direct_named (group p e) ρ = named_bind (direct_named e ρ) λ v. named_ok _ v
    direct_named (var p x) ρ = named_ok _ _
    direct_named (bind p e b) ρ = named_bind (direct_named e ρ) λ v. named_bind (direct_named b (v, ρ)) λ u. named_ok _ u
    direct_named (prim p o es) ρ =
        named_bind (direct_nameds es ρ) λ vs. named_bind (named-test (failure o) p (apply H o vs) (single o vs)) λ v. named_ok _ v
    direct_named (ite {t = t} p c a b) ρ =
        named_bind (direct_named c ρ) λ x.
        named_bind (named-charge p _ x) λ x.
        named_bind (named_cond x (direct_named a ρ) (direct_named b ρ)) λ v. named-charge p (join_charge t v) v
    direct_named (each {b = u} p s f b) ρ =
        named_bind (direct_named s ρ) λ xs.
        named_bind (named-charge p _ xs) λ xs.
        named_bind
        (named_keep (λ x. direct_trace H f (x, ρ)) (λ x. direct_trace H b (x, ρ)) (λ x. direct_named f (x, ρ)) (λ x. direct_named b (x, ρ)) xs) λ vs.
        named-charge p (join_charge (list u) vs) vs
    direct_named (over {b = u} p s b) ρ =
        named_bind (direct_named s ρ) λ xs.
        named_bind (named-charge p _ xs) λ xs.
        named_bind (named_each (λ x. direct_trace H b (x, ρ)) (λ x. direct_named b (x, ρ)) xs) λ vs.
        named-charge p (join_charge (list u) vs) vs

    pub direct_nameds : {Γ ts : List Ty} (es : Args Γ ts) (ρ : Env Γ) → Named (direct_traces H es ρ)
    direct_nameds nil ρ = named_ok _ _
    direct_nameds (more e es) ρ = named_bind (direct_named e ρ) λ v. named_bind (direct_nameds es ρ) λ vs. named_ok _ (v, vs)

  mutual
    unfolding batch_trace

    pub batch_named : {Γ : List Ty} {t : Ty} (e : Expr Γ t) (ρs : List (Env Γ)) → Named (batch_trace H e ρs)
    batch_named (con p k) ρs = named_ok _ _
    batch_named (group p e) ρs = named_bind (batch_named e ρs) λ vs. named_ok _ vs
    batch_named (var p x) ρs = named_ok _ _
    batch_named (bind p e b) ρs = named_bind (batch_named e ρs) λ vs. named_bind (batch_named b (zip vs ρs)) λ us. named_ok _ us
    batch_named (prim p o es) ρs =
        named_bind (batch_nameds es ρs) λ vss. named_bind (named-test (failure o) p (every (λ vs. apply H o vs) vss) (together o vss)) λ us.
        named_ok _ us
    batch_named (ite {t = t} p c a b) ρs =
        named_bind (batch_named c ρs) λ fs.
        named_bind (named-charge p _ fs) λ fs.
        named_bind (batch_named a (pack fs ρs)) λ us.
        named_bind (batch_named b (pack (map not fs) ρs)) λ vs.
        named_bind (named_ok [] (merge fs us vs)) λ ws. named-charge p (sum_by (join_charge t) ws) ws
    batch_named (each {b = u} p s f b) ρs =
        named_bind (batch_named s ρs) λ xss.
        named_bind (named-charge p _ xss) λ xss.
        named_bind (batch_named f (concat (rows xss ρs))) λ fs.
        named_bind (batch_named b (pack fs (concat (rows xss ρs)))) λ vs.
        named_bind (named_ok [] (cut vs (counts (map length (rows xss ρs)) fs))) λ us. named-charge p (sum_by (join_charge (list u)) us) us
    batch_named (over {b = u} p s b) ρs =
        named_bind (batch_named s ρs) λ xss.
        named_bind (named-charge p _ xss) λ xss.
        named_bind (batch_named b (concat (rows xss ρs))) λ vs.
        named_bind (named_ok [] (cut vs (map length (rows xss ρs)))) λ us. named-charge p (sum_by (join_charge (list u)) us) us

    pub batch_nameds : {Γ ts : List Ty} (es : Args Γ ts) (ρs : List (Env Γ)) → Named (batch_traces H es ρs)
    batch_nameds nil ρs = named_ok _ _
    batch_nameds (more e es) ρs = named_bind (batch_named e ρs) λ vs. named_bind (batch_nameds es ρs) λ us. named_ok _ (zip vs us)

refusing : {B : ℕ} {A : Type 0} {c : ℕ} {t : Trace A} {r : Outcome Refusal (A × ℕ)} → Judged B c t r → Named t → (f : Refusal) → r ≡ fail f →
    Refusing f.number
refusing j n f k = elim ((j.refuses f).0 k) [
  | inl i ↦ subst (λ r. Refusing r.number) (sym i.2) over_budget
  | inr i ↦ failing (n.named f i.0)
]

pub numbers_law : NumbersLaw
numbers_law = record {
  rules = λ H Γ t e ρ f k. (direct_named H e ρ).named f (((work_law H Γ t e ρ).fails f).0 k);
  directs = λ H B Γ t e ρ f k. refusing (direct_trace_law H B Γ t e ρ 0 zero-le) (direct_named H e ρ) f k;
  vectors = λ H B Γ t e ρs f k. refusing (batch_trace_law H B Γ t e ρs 0 zero-le) (batch_named H e ρs) f k;
}
