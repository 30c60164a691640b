-- One occurrence against one step of elaboration: where either refuses so does the other.
use Rattle.std.proofs.Common.{◌≡◌, ℕ, ◌≤◌, Bool, true, false, cond, leb, List, [], ◌∷◌, ap, ◌∙◌}
use mathlib.Core.Path as P
use mathlib.Core.Option.{Option, none, some}
use Rattle.tokens.specs.declared.kind.Name.{Name}
use Rattle.grammar.specs.declared.occurrence.Occurrence.{Occurrence}
use Rattle.types.specs.Types.{Ty, int, bool, pair, list, parts}
use Rattle.lang.specs.Outcome.{Out, ok, then, refuse}
use Rattle.lang.specs.Rules.{Verdict, gives, unfit, large, limit, list_rule}
use Rattle.lang.specs.Expr.{Expr, Args}
use Rattle.lang.specs.Elaborate.{Typed, judged, at_type, rows, within}
use Rattle.lang.proofs.Sound.{Holds}
use Rattle.judging.specs.Judging.{State, node_of, fits, each_fork, judge}
use Rattle.judging.proofs.Forks.{AllSmall}
use Rattle.judging.proofs.Outcomes.{Slim}
use Rattle.judging.proofs.States.{after, spent}
use Rattle.judging.proofs.Operands.{prim_state}
use Rattle.judging.proofs.Nodes.{each_forked}

-- a type that is wanted; F is the state for an expression of any type
pub fits-then : {Γ : List Ty} {t u : Ty} {B C : Type 0} (Q : B → Type 0) (m : Option (Id Ty t u)) (p : ℕ) (x : Expr Γ t) (F : (t : Ty) → Expr Γ t → State)
    (f : Expr Γ u → Out B) (g : B → Out C) (h : State → Out C) →
    Holds Q (then (at_type m p x) f) → ((y : Expr Γ u) → Holds Q (f y) → h (F u y) ≡ then (f y) g) → then (fits m p (F t x)) h ≡ then (then (at_type m p x) f) g
fits-then Q none p x F f g h q k = P.refl
fits-then Q (some refl) p x F f g h q k = k x q

-- the list of a comprehension
pub rows_then : {Γ : List Ty} {B C : Type 0} (Q : B → Type 0) (p : ℕ) (n : Name) (t : Ty) (x : Expr Γ t) (F : (t : Ty) → Expr Γ t → State)
    (f : (a : Ty) × Expr Γ (list a) → Out B) (g : B → Out C) (h : State → Out C) → parts t ≤ 8 → Holds Q (then (rows p t x) f) →
    ((a : Ty) (y : Expr Γ (list a)) → parts (list a) ≤ 8 → Holds Q (f (a, y)) → h (each_forked n a (F (list a) y)) ≡ then (f (a, y)) g) →
    then (each_fork p n t (F t x)) h ≡ then (then (rows p t x) f) g
rows_then Q p n int x F f g h l q k = P.refl
rows_then Q p n bool x F f g h l q k = P.refl
rows_then Q p n (pair a b) x F f g h l q k = P.refl
rows_then Q p n (list a) x F f g h l q k = k a x l q

-- the end of a comprehension
pub within-then : {Γ : List Ty} {C : Type 0} (p : ℕ) (u : Ty) (e : Expr Γ (list u)) (s : State) (g : Typed Γ → Out C) (h : State → Out C) →
    Holds (Slim {Γ = Γ}) (within p e) → (parts (list u) ≤ 8 → h s ≡ g (list u, e)) → then (cond (leb (parts (list u)) limit) (ok s) (refuse 7 p)) h ≡ then (within p e) g
within-then {Γ} p u e s g h q k = by (leb (parts (list u)) limit) q
  where
    by : (b : Bool) → Holds (Slim {Γ = Γ}) (cond b (ok (list u, e)) (refuse 7 p)) → then (cond b (ok s) (refuse 7 p)) h ≡ then (cond b (ok (list u, e)) (refuse 7 p)) g
    by true q = k q
    by false q = P.refl

-- a primitive of one operand or more
pub node_then : {Γ ts : List Ty} {a : Ty} (p : ℕ) (v : Verdict (a ∷ ts)) (es : Args Γ (a ∷ ts)) (s r : State) (rest : List Occurrence) →
    Holds (Slim {Γ = Γ}) (judged p v es) → AllSmall (a ∷ ts) → r ≡ spent es s →
    then (node_of p (a ∷ ts) v r) (λ s. judge rest s) ≡ then (judged p v es) (λ y. judge rest (after y.1 s))
node_then {ts = ts} {a = a} p v es s r rest q h e = ap (λ r. then (node_of p (a ∷ ts) v r) (λ s. judge rest s)) e ∙ by v q
  where
    by : (v : Verdict (a ∷ ts)) → Holds (Slim {Γ = _}) (judged p v es) → then (node_of p (a ∷ ts) v (spent es s)) (λ s. judge rest s) ≡ then (judged p v es) (λ y. judge rest (after y.1 s))
    by (gives t o) q = ap (judge rest) (prim_state s p o es h q)
    by unfit q = P.refl
    by large q = P.refl

-- a list in brackets
pub list_then : {Γ : List Ty} (p : ℕ) (ts : List Ty) (es : Args Γ ts) (s r : State) (rest : List Occurrence) →
    Holds (Slim {Γ = Γ}) (judged p (list_rule ts) es) → AllSmall ts → r ≡ spent es s →
    then (node_of p ts (list_rule ts) r) (λ s. judge rest s) ≡ then (judged p (list_rule ts) es) (λ y. judge rest (after y.1 s))
list_then p [] es s r rest q h e = P.refl
list_then p (a ∷ ts) es s r rest q h e = node_then p (list_rule (a ∷ ts)) es s r rest q h e
