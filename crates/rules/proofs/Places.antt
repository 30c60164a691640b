-- What is charged at one place: the vector run's charges there are those of its evaluations together.
use Rattle.std.proofs.Common.{◌≡◌, ℕ, ◌+◌, Bool, true, false, cond, not, eqb, List, [], ◌∷◌, ◌++◌, map, length, sym, refl, ap, ◌∙◌, subst, add-zero, arith}
use Rattle.std.proofs.lemmas.Grind.{common_steps}
use mathlib.Core.Path.{fun_ext}
use mathlib.Core.Option.{Option, none, some}
use Rattle.refusal.specs.declared.Refusal.{Refusal}
use Rattle.monoid.specs.Segments.{concat, cut}
use Rattle.types.specs.Types.{Ty, list}
use Rattle.lang.specs.Values.{Val, sum_by}
use Rattle.lang.specs.Expr.{scalar, Expr, Args, con, group, var, bind, prim, ite, each, over, nil, more}
use Rattle.rules.specs.Outcome.{refusal, Outcome, ok, fail, Work, plus, ◌>>=◌, cost, lift, all, keep}
use Rattle.rules.specs.Lists.{zip, pack, merge, counts, rows, every}
use Rattle.rules.specs.Environment.{Env, look}
use Rattle.rules.specs.Joining.{HouseJoin}
use Rattle.rules.specs.Primitives.{apply, failure}
use Rattle.rules.specs.Charges.{prim_charge, ite_fork, fork_each, over_fork, join_charge}
use Rattle.rules.specs.Trace as Trace
use Rattle.rules.specs.Trace.{Charge, Trace, and_then, give, charge, test, each_trace, keep_trace, picked, total_at}
use Rattle.rules.specs.Traces.{direct_trace, direct_traces, batch_trace, batch_traces}
use Rattle.rules.specs.Laws.{PlacesLaw}
use Rattle.rules.proofs.Cases.{ok_inj}
use Rattle.rules.proofs.Monad.{all-cost}
use Rattle.rules.proofs.Commute.{sum_ones, sum_zeros, all-charge_x, node_nil, node_more, node_let, node_op, node_ite, node_each, node_over}

abbrev M : Type 0 → Type 0
M A = Work (Unit {0}) A

picked-sum : {A : Type 0} (p q : ℕ) (n : A → ℕ) (xs : List A) → picked p q (sum_by n xs) ≡ sum_by (λ x. picked p q (n x)) xs
picked-sum p q n xs = by (eqb p q)
  where
    by : (b : Bool) → cond b (sum_by n xs) 0 ≡ sum_by (λ x. cond b (n x) 0) xs
    by true = refl
    by false = sym (sum_zeros xs)

picked_ones : {A : Type 0} (p q : ℕ) (xs : List A) → picked p q (length xs) ≡ sum_by (λ x. picked p q 1) xs
picked_ones p q xs = ap (picked p q) (sym (sum_ones xs)) ∙ picked-sum p q (λ x. 1) xs

module _ (p : ℕ) where
  -- the value at the end of a trace and what is charged at p; the fault is forgotten
  seen : {A : Type 0} → List Charge → Outcome Refusal A → M A
  seen cs (ok a) = ok (a, total_at p cs)
  seen cs (fail r) = fail tt

  total-at-append : (xs ys : List Charge) → total_at p (xs ++ ys) ≡ total_at p xs + total_at p ys
  total-at-append [] ys = omega arith
  total-at-append (x ∷ xs) ys = let h = total-at-append xs ys in omega arith

  plus_seen : {A : Type 0} (cs ds : List Charge) (o : Outcome Refusal A) → seen (cs ++ ds) o ≡ plus (total_at p cs) (seen ds o)
  unfolding seen
  plus_seen cs ds (ok a) = ap (λ n. ok (a, n)) (total-at-append cs ds)
  plus_seen cs ds (fail r) = refl

  seen_bind : {A C : Type 0} (cs : List Charge) (o : Outcome Refusal A) (f : A → Trace C) →
      seen (and_then cs o f).0 (and_then cs o f).1 ≡ (seen cs o >>= λ a. seen (f a).0 (f a).1)
  unfolding seen
  seen_bind cs (ok a) f = plus_seen cs (f a).0 (f a).1
  seen_bind cs (fail r) f = refl

  seen_charge : {A : Type 0} (q n : ℕ) (a : A) → seen (record { place = q; amount = n } ∷ []) (ok a) ≡ cost (picked p q n) a
  unfolding seen
  seen_charge q n a = ap (λ k. ok (a, k)) (add-zero (picked p q n))

  seen_give : {A : Type 0} (a : A) → seen [] (ok a) ≡ cost 0 a
  unfolding seen
  seen_give a = refl

  seen_test : {A : Type 0} (r : Refusal) (o : Option A) → seen (test r o).0 (test r o).1 ≡ lift tt o
  unfolding seen
  seen_test r none = refl
  seen_test r (some a) = refl

  seen_cond : {A : Type 0} (b : Bool) (x y : Trace A) → seen (cond b x y).0 (cond b x y).1 ≡ cond b (seen x.0 x.1) (seen y.0 y.1)
  seen_cond true x y = refl
  seen_cond false x y = refl

  seen_each : {A C : Type 0} (f : A → Trace C) (xs : List A) → seen (each_trace f xs).0 (each_trace f xs).1 ≡ all (λ x. seen (f x).0 (f x).1) xs
  seen_each f [] = seen_give []
  seen_each f (x ∷ xs) = simp (seen_bind, seen_give, seen_each f xs)

  seen_keep : {A C : Type 0} (f : A → Trace Bool) (g : A → Trace C) (xs : List A) →
      seen (keep_trace f g xs).0 (keep_trace f g xs).1 ≡ keep (λ x. seen (f x).0 (f x).1) (λ x. seen (g x).0 (g x).1) xs
  seen_keep f g [] = seen_give []
  seen_keep f g (x ∷ xs) = simp (seen_bind, seen_cond, seen_give, seen_keep f g xs)

  -- the trace t has the value and the charges at p of m
  record Shows {A : Type 0} (t : Trace A) (m : M A) : Type 0 where
    pub shows : seen t.0 t.1 ≡ m

  shows_to : {A : Type 0} {t : Trace A} {m n : M A} → Shows t m → m ≡ n → Shows t n
  shows_to {t = t} s e = subst (λ k. Shows t k) e s

  shows_bind : {A C : Type 0} {t : Trace A} {m : M A} {f : A → Trace C} {g : A → M C} → Shows t m → ((a : A) → Shows (f a) (g a)) →
      Shows (Trace.◌>>=◌ t f) (m >>= g)
  shows_bind {t = t} {m} {f} {g} s h =
      record { shows = seen_bind t.0 t.1 f ∙ ap (λ x. x >>= λ a. seen (f a).0 (f a).1) s.shows ∙ ap (λ k. m >>= k) (fun_ext λ a. (h a).shows) }

  shows_charge : {A : Type 0} (q n : ℕ) (a : A) → Shows (charge q n a) (cost (picked p q n) a)
  shows_charge q n a = record { shows = seen_charge q n a }

  shows_sum : {A R : Type 0} (q : ℕ) (n : R → ℕ) (xs : List R) (a : A) → Shows (charge q (sum_by n xs) a) (cost (sum_by (λ x. picked p q (n x)) xs) a)
  shows_sum q n xs a = grind (arith, common_steps, shows_to, shows_charge, picked-sum)

  shows_ones : {A R : Type 0} (q : ℕ) (xs : List R) (a : A) → Shows (charge q (length xs) a) (cost (sum_by (λ x. picked p q 1) xs) a)
  shows_ones q xs a = grind (arith, common_steps, shows_to, shows_charge, picked_ones)

  shows_give : {A : Type 0} (a : A) → Shows (give a) (cost 0 a)
  shows_give a = record { shows = seen_give a }

  shows_test : {A : Type 0} (r : Refusal) (o : Option A) → Shows (test r o) (lift tt o)
  shows_test r o = record { shows = seen_test r o }

module _ (H : HouseJoin) (p : ℕ) where
  -- one evaluation
  abbrev alone : {Γ : List Ty} {t : Ty} → Expr Γ t → Env Γ → M (Val t)
  alone e ρ = seen p (direct_trace H e ρ).0 (direct_trace H e ρ).1

  abbrev alones : {Γ ts : List Ty} → Args Γ ts → Env Γ → M (Env ts)
  alones es ρ = seen p (direct_traces H es ρ).0 (direct_traces H es ρ).1

  mutual
    unfolding batch_trace direct_trace

    shown : {Γ : List Ty} {t : Ty} (e : Expr Γ t) (ρs : List (Env Γ)) → Shows p (batch_trace H e ρs) (all (λ ρ. alone e ρ) ρs)
    shown (con q k) ρs =
        shows_to p (shows_ones p q ρs (map (λ ρ. scalar k) ρs)) (sym (all-cost (λ ρ. picked p q 1) (λ ρ. scalar k) ρs) ∙ simp seen_charge)
    shown (group q e) ρs =
        shows_to p (shows_bind p (shown e ρs) λ vs. shows_ones p q ρs vs)
        (sym (all-charge_x (λ ρ. alone e ρ) (λ ρ. picked p q 1) ρs) ∙ simp (seen_bind, seen_charge))
    shown (var q x) ρs =
        shows_to p (shows_ones p q ρs (map (λ ρ. look x ρ) ρs)) (sym (all-cost (λ ρ. picked p q 1) (λ ρ. look x ρ) ρs) ∙ simp seen_charge)
    shown (bind q e b) ρs =
        shows_to p (shows_bind p (shown e ρs) λ vs. shows_bind p (shown b (zip vs ρs)) λ us. shows_ones p q ρs us)
        (node_let (λ ρ. alone e ρ) (λ r. alone b r) (λ ρ. picked p q 1) ρs ∙ simp (seen_bind, seen_charge))
    shown (prim {ts = ts} {t = t} q o es) ρs =
        shows_to p
        (shows_bind p (showns es ρs) λ vss.
        shows_bind p (shows_test p (refusal (failure o) q) (every (λ vs. apply H o vs) vss)) λ us.
        shows_sum p q (λ r. prim_charge ts t r.1 r.0) (zip us vss) us)
        (node_op (λ ρ. alones es ρ) (λ vs. apply H o vs) (λ vs v. picked p q (prim_charge ts t vs v)) ρs ∙ simp (seen_bind, seen_test, seen_charge))
    shown (ite {t = t} q c a b) ρs =
        shows_to p
        (shows_bind p (shown c ρs) λ fs.
        shows_bind p (shows_sum p q (ite_fork a b) ρs fs) λ fs.
        shows_bind p (shown a (pack fs ρs)) λ us.
        shows_bind p (shown b (pack (map not fs) ρs)) λ vs. shows_bind p (shows_give p (merge fs us vs)) λ ws. shows_sum p q (join_charge t) ws ws)
        (node_ite (λ ρ. alone c ρ) (λ ρ. alone a ρ) (λ ρ. alone b ρ) (λ ρ. picked p q (ite_fork a b ρ)) (λ v. picked p q (join_charge t v)) ρs ∙
        simp (seen_bind, seen_charge, seen_cond))
    shown (each {b = u} q s f b) ρs =
        shows_to p
        (shows_bind p (shown s ρs) λ xss.
        shows_bind p (shows_sum p q (λ r. fork_each f b r.1 r.0) (zip xss ρs) xss) λ xss.
        shows_bind p (shown f (concat (rows xss ρs))) λ fs.
        shows_bind p (shown b (pack fs (concat (rows xss ρs)))) λ vs.
        shows_bind p (shows_give p (cut vs (counts (map length (rows xss ρs)) fs))) λ us. shows_sum p q (join_charge (list u)) us us)
        (node_each (λ ρ. alone s ρ) (λ r. alone f r) (λ r. alone b r) (λ ρ xs. picked p q (fork_each f b ρ xs)) (λ v. picked p q (join_charge (list u) v)) ρs ∙
        simp (seen_bind, seen_charge, seen_keep))
    shown (over {b = u} q s b) ρs =
        shows_to p
        (shows_bind p (shown s ρs) λ xss.
        shows_bind p (shows_sum p q (λ r. over_fork b r.1 r.0) (zip xss ρs) xss) λ xss.
        shows_bind p (shown b (concat (rows xss ρs))) λ vs.
        shows_bind p (shows_give p (cut vs (map length (rows xss ρs)))) λ us. shows_sum p q (join_charge (list u)) us us)
        (node_over (λ ρ. alone s ρ) (λ r. alone b r) (λ ρ xs. picked p q (over_fork b ρ xs)) (λ v. picked p q (join_charge (list u) v)) ρs ∙
        simp (seen_bind, seen_charge, seen_each))

    showns : {Γ ts : List Ty} (es : Args Γ ts) (ρs : List (Env Γ)) → Shows p (batch_traces H es ρs) (all (λ ρ. alones es ρ) ρs)
    showns nil ρs = shows_to p (shows_give p (map (λ ρ. tt) ρs)) (node_nil (λ ρ. tt) ρs ∙ simp seen_give)
    showns (more e es) ρs =
        shows_to p (shows_bind p (shown e ρs) λ vs. shows_bind p (showns es ρs) λ us. shows_give p (zip vs us))
        (node_more (λ ρ. alone e ρ) (λ ρ. alones es ρ) ρs ∙ simp (seen_bind, seen_give))

-- all in turn: the charges are the sum
all_seen : {R A : Type 0} (p : ℕ) (t : R → Trace A) (ρs : List R) (vs : List A) (n : ℕ) → all (λ ρ. seen p (t ρ).0 (t ρ).1) ρs ≡ ok (vs, n) →
    n ≡ sum_by (λ ρ. total_at p (t ρ).0) ρs
unfolding seen
all_seen p t [] vs n h = sym (ap (λ r. r.1) (ok_inj {E = Unit {0}} ([], 0) (vs, n) h))
all_seen {R} {A} p t (ρ ∷ ρs) vs n h = by (t ρ).0 (t ρ).1 (all (λ ρ. seen p (t ρ).0 (t ρ).1) ρs) refl (all_seen p t ρs) h
  where
    by : (cs : List Charge) (o : Outcome Refusal A) (y : M (List A)) → all (λ ρ. seen p (t ρ).0 (t ρ).1) ρs ≡ y →
        ((us : List A) (m : ℕ) → all (λ ρ. seen p (t ρ).0 (t ρ).1) ρs ≡ ok (us, m) → m ≡ sum_by (λ ρ. total_at p (t ρ).0) ρs) →
        (seen p cs o >>= λ v. y >>= λ us. cost 0 (v ∷ us)) ≡ ok (vs, n) → n ≡ total_at p cs + sum_by (λ ρ. total_at p (t ρ).0) ρs
    by cs (fail e) y q rest h = absurd cc
    by cs (ok a) (fail e) q rest h = absurd cc
    by cs (ok a) (ok y) q rest h =
        let k = ap (λ r. r.1) (ok_inj {E = Unit {0}} (a ∷ y.0, total_at p cs + (y.1 + 0)) (vs, n) h) in
        let m = rest y.0 y.1 q in
        omega arith

pub places_law : PlacesLaw
unfolding seen
places_law H Γ t e ρs vs h p =
    all_seen p (λ ρ. direct_trace H e ρ) ρs vs (total_at p (batch_trace H e ρs).0)
    (sym (shown H p e ρs).shows ∙ ap (λ o. seen p (batch_trace H e ρs).0 o) h)
