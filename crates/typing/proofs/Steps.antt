-- Nodes and joins, over plain states.
use Rattle.std.proofs.Common.{◌≡◌, ℕ, ◌+◌, true, false, leb, List, [], ◌∷◌, drop, refl, sym, ap, ◌∙◌, inl, inr, arith}
use Rattle.std.proofs.lemmas.Bool.{cases_lt, le-leb, lt-leb}
use Rattle.std.proofs.lemmas.List.{drop-drop}
use Rattle.std.specs.declared.result.Result.TheVariants.{Ok, Err}
use mathlib.Core.Option.{none}
use Rattle.types.specs.Types.{Ty, list, parts, same}
use Rattle.types.proofs.Same.{same_self}
use Rattle.types.specs.Entries.{counted}
use Rattle.lang.specs.Outcome.{ok, refused, refuse}
use Rattle.lang.specs.Rules.{Verdict, gives, unfit, large, limit}
use Rattle.grammar.specs.declared.occurrence.What.{What}
use Rattle.judging.specs.Judging.{State, top, popped, decide, counted_of, node_of, one, two, only, fork, parts_used, left, joined, step}
use Rattle.typing.specs.Faults.{misfit_at}
use Rattle.typing.specs.Holding.{outcome, over, filter_of}
use Rattle.typing.specs.declared.misfit.Misfit.{Misfit}

-- what a rule decides at a place is its outcome
given : {ts : List Ty} (v : Verdict ts) (t : Ty) (p : ℕ) → outcome v ≡ Ok t → decide p v ≡ ok t
given (gives u o) t p e = cc
given unfit t p e = cc
given large t p e = cc

denied : {ts : List Ty} (v : Verdict ts) (m : Misfit) (p : ℕ) → outcome v ≡ Err m → decide p v ≡ refused (misfit_at p m)
denied (gives u o) m p e = cc
denied unfit m p e = cc
denied large m p e = cc

module _ (s : State) (p k : ℕ) (ts : List Ty) (v : Verdict ts) where
  pub node_ok : (s' : State) (t : Ty) (n : ℕ) → outcome v ≡ Ok t → n ≡ counted_of ts → s' ≡ over k n t s → node_of p ts v (popped k s) ≡ ok s'
  node_ok s' t n e en es = rw (given v t p e, es, en) refl

  pub node_no : (m : Misfit) → outcome v ≡ Err m → node_of p ts v (popped k s) ≡ refused (misfit_at p m)
  node_no m e = rw (denied v m p e) refl

module _ (s : State) (p : ℕ) (rule : (a : Ty) → Verdict (a ∷ [])) (x : Ty) (ex : x ≡ top s) where
  pub one_ok : (s' : State) (t : Ty) (n : ℕ) → outcome (rule x) ≡ Ok t → n ≡ counted x → s' ≡ over 1 n t s → one p rule s ≡ ok s'
  one_ok s' t n e en es =
      rw (← ex) (node_ok s p 1 (x ∷ []) (rule x) s' t n e (omega (arith, en)) es)

  pub one_no : (m : Misfit) → outcome (rule x) ≡ Err m → one p rule s ≡ refused (misfit_at p m)
  one_no m e = rw (← ex) (node_no s p 1 (x ∷ []) (rule x) m e)

module _ (s : State) (p : ℕ) (rule : (a b : Ty) → Verdict (a ∷ b ∷ [])) (x y : Ty) (ex : x ≡ top (popped 1 s)) (ey : y ≡ top s) where
  pub two_ok : (s' : State) (t : Ty) (n : ℕ) → outcome (rule x y) ≡ Ok t → n ≡ counted x + counted y → s' ≡ over 2 n t s → two p rule s ≡ ok s'
  two_ok s' t n e en es =
      rw (← ex, ← ey) (node_ok s p 2 (x ∷ y ∷ []) (rule x y) s' t n e (omega (arith, en)) es)

  pub two_no : (m : Misfit) → outcome (rule x y) ≡ Err m → two p rule s ≡ refused (misfit_at p m)
  two_no m e = rw (← ex, ← ey) (node_no s p 2 (x ∷ y ∷ []) (rule x y) m e)

-- a type that is wanted
pub only_fits : (t u : Ty) (p : ℕ) (s : State) → t ≡ u → only t u p s ≡ ok s
only_fits t u p s e = rw (e, same_self u) refl

pub only_not : (t u : Ty) (p : ℕ) (s : State) → same t u ≡ none → only t u p s ≡ refuse 6 p
only_not t u p s e = rw e refl

pub popped-twice : (s : State) → popped 1 (popped 1 s) ≡ popped 2 s
popped-twice s = ap (λ l. record { scope = s.scope; stack = l; forks = s.forks; notes = s.notes; weight = s.weight }) (drop-drop 1 1 s.stack)

-- parts are counted far beyond the limit
pub counted_limit : (t : Ty) → leb (counted t) 8 ≡ leb (parts t) limit
counted_limit t = elim (cases_lt 8 (parts t)) [
  | inl l ↦ lt-leb (counted t) 8 (omega (arith, l)) ∙ sym (lt-leb (parts t) 8 l)
  | inr g ↦ le-leb (counted t) 8 (omega (arith, g)) ∙ sym (le-leb (parts t) 8 g)
]

-- the join of a comprehension
module _ (s : State) (p k : ℕ) (fits : filter_of p (fork s).filtered (popped 1 s) ≡ ok (popped k s)) where
  pub each_ok : (s' : State) (n : ℕ) → leb (counted (list (top s))) 8 ≡ true → n ≡ parts_used (drop 1 s.scope) (fork s).used → s' ≡ joined (left (over k n (list (top s)) s)) → step What.EachJoin p s ≡ ok s'
  each_ok s' n l en es =
      let z : n + (1 + counted (list (top s))) ≡ 1 + n + counted (list (top s)) = omega arith in
      rw (fits, ← counted_limit (list (top s)), l, es, ← en, z) refl

  pub each_large : leb (counted (list (top s))) 8 ≡ false → step What.EachJoin p s ≡ refuse 7 p
  each_large l = rw (fits, ← counted_limit (list (top s)), l) refl
