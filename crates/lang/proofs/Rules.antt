-- What a verdict on operands says, rule by rule.
use Rattle.std.proofs.Common.{◌≡◌, ℕ, zero, suc, ◌<◌, ◌≤◌, Bool, true, false, cond, leb, List, [], ◌∷◌, length, sym, ap, ◌∙◌, subst, arith}
use mathlib.Core.Path as P
use mathlib.Core.Option.{Option, none, some}
use Rattle.std.proofs.lemmas.Bool.{leb-true, le-leb}
use Rattle.types.specs.Types.{Ty, int, bool, pair, list, parts, same, same_pair, same_list}
use Rattle.lang.specs.Expr.{copies, Op, bracket}
use Rattle.lang.specs.Rules.{Verdict, gives, unfit, large, limited, is, of_pair, of_list, Alike, alike, one_more, all_alike, list_of, list_rule}

-- a type is the same as itself
pub same_self : (t : Ty) → same t t ≡ some refl
same_self int = P.refl
same_self bool = P.refl
same_self (pair a b) = ap (λ m. same_pair m (same b b)) (same_self a) ∙ ap (same_pair (some refl)) (same_self b)
same_self (list a) = ap same_list (same_self a)

-- what holds of the type that is given
abbrev pub Gives : {ts : List Ty} → (Ty → Type 0) → Verdict ts → Type 0
Gives P (gives t o) = P t
Gives P unfit = Unit {0}
Gives P large = Unit {0}

pub by_is : {a b : Ty} (F : Ty → List Ty) (Q : Ty → Ty → Type 0) (m : Option (Id Ty a b)) (v : Verdict (F b)) → Gives (Q b) v → Gives (Q a) (is F m v)
by_is F Q none v h = tt
by_is F Q (some refl) v h = h

pub by_pair : (F : Ty → List Ty) (Q : Ty → Ty → Type 0) (t : Ty) (v : (a b : Ty) → Verdict (F (pair a b))) → ((a b : Ty) → Gives (Q (pair a b)) (v a b)) → Gives (Q t) (of_pair F t v)
by_pair F Q int v h = tt
by_pair F Q bool v h = tt
by_pair F Q (pair a b) v h = h a b
by_pair F Q (list a) v h = tt

pub by_list : (F : Ty → List Ty) (Q : Ty → Ty → Type 0) (t : Ty) (v : (a : Ty) → Verdict (F (list a))) → ((a : Ty) → Gives (Q (list a)) (v a)) → Gives (Q t) (of_list F t v)
by_list F Q int v h = tt
by_list F Q bool v h = tt
by_list F Q (pair a b) v h = tt
by_list F Q (list a) v h = h a

pub by_limit : {ts : List Ty} {t : Ty} (Q : Ty → Type 0) (o : Op ts t) → (parts t ≤ 8 → Q t) → Gives Q (limited o)
by_limit {t = t} Q o h = by (leb (parts t) 8) P.refl
  where
    by : (b : Bool) → leb (parts t) 8 ≡ b → Gives Q (cond b (gives t o) large)
    by true e = h (leb-true _ _ e)
    by false e = tt

-- and the other way round
pub limit_gives : {ts : List Ty} {t : Ty} (o : Op ts t) → parts t ≤ 8 → limited o ≡ gives t o
limit_gives {t = t} o h = ap (λ b. cond b (gives t o) large) (le-leb (parts t) 8 h)

-- all of the list are the type t
abbrev pub All : Ty → List Ty → Type 0
All t [] = Unit {0}
All t (u ∷ ts) = (u ≡ t) × All t ts

all-copies : (k : ℕ) (t : Ty) → All t (copies k t)
all-copies zero t = tt
all-copies (suc k) t = (P.refl, all-copies k t)

pub copied : (k : ℕ) (t : Ty) → length (copies k t) ≡ k
copied zero t = P.refl
copied (suc k) t = ap suc (copied k t)

list_is : {t : Ty} {ts : List Ty} (Q : Ty → Type 0) (m : Option (Alike t ts)) →
    ((u : Ty) → All u (t ∷ ts) → length (t ∷ ts) ≤ 8 → parts (list u) ≤ 8 → Q (list u)) → Gives Q (list_of m)
list_is Q none h = tt
list_is {t} Q (some (alike k)) h = by (leb (suc k) 8) P.refl
  where
    by : (b : Bool) → leb (suc k) 8 ≡ b → Gives Q (cond b (limited (bracket k t)) large)
    by true e = by_limit Q (bracket k t) (h t (P.refl, all-copies k t) (omega (arith, leb-true (suc k) 8 e, copied k t)))
    by false e = tt

pub by_bracket : (Q : Ty → Type 0) (ts : List Ty) → ((t : Ty) → All t ts → length ts ≤ 8 → parts (list t) ≤ 8 → Q (list t)) → Gives Q (list_rule ts)
by_bracket Q [] h = tt
by_bracket Q (t ∷ ts) h = list_is Q (all_alike t ts) h

one_more_alike : {u : Ty} {us : List Ty} (m : Alike u us) → (n : Alike u (u ∷ us)) × (one_more (some refl) (some m) ≡ some n)
one_more_alike (alike k) = (alike (suc k), P.refl)

found_alike : (u : Ty) (us : List Ty) → All u us → (m : Alike u us) × (all_alike u us ≡ some m)
found_alike u [] h = (alike zero, P.refl)
found_alike u (v ∷ us) h =
    let (m, e) = found_alike u us h.1 in
    subst (λ w. (n : Alike u (w ∷ us)) × (one_more (same w u) (all_alike u us) ≡ some n)) (sym h.0)
    (let (n, d) = one_more_alike m in (n, rw (same_self u, e) d))

alike_gives : {u : Ty} {us : List Ty} (m : Alike u us) → length (u ∷ us) ≤ 8 → parts (list u) ≤ 8 → (o : Op (u ∷ us) (list u)) × (list_of (some m) ≡ gives (list u) o)
alike_gives {u} (alike k) h l =
    let e : leb (suc k) 8 ≡ true = le-leb (suc k) 8 (omega (arith, copied k u)) in
    (bracket k u, ap (λ b. cond b (limited (bracket k u)) large) e ∙ limit_gives (bracket k u) l)

pub bracket_gives : (t : Ty) (ts : List Ty) → All t ts → 0 < length ts → length ts ≤ 8 → parts (list t) ≤ 8 → (o : Op ts (list t)) × (list_rule ts ≡ gives (list t) o)
bracket_gives t [] a n h l = absurd (omega arith)
bracket_gives t (u ∷ us) a n h l = subst (λ w. All w us → parts (list w) ≤ 8 → (o : Op (u ∷ us) (list w)) × (list_rule (u ∷ us) ≡ gives (list w) o)) a.0 at_head a.1 l
  where
    at_head : All u us → parts (list u) ≤ 8 → (o : Op (u ∷ us) (list u)) × (list_rule (u ∷ us) ≡ gives (list u) o)
    at_head b k = let (m, e) = found_alike u us b in let (o, d) = alike_gives m h k in (o, ap list_of e ∙ d)
