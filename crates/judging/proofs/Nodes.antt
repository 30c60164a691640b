-- What the occurrences of each node do to a state, together.
use Rattle.std.proofs.Common.{◌≡◌, ℕ, ◌+◌, ◌≤◌, Bool, false, List, [], ◌∷◌, length, drop, replicate, sym, refl, ap, ◌∙◌, subst, arith}
use Rattle.std.proofs.lemmas.List.{append_assoc, length-replicate}
use Rattle.tokens.specs.declared.kind.Name.{Name}
use Rattle.types.specs.Types.{Ty, bool, list, parts}
use Rattle.types.specs.Entries.{counted}
use Rattle.lang.specs.Expr.{Var, Scalar, Mask, union}
use Rattle.lang.specs.Expr.{Expr, free, con, group, var, bind, ite, each, over}
use Rattle.lang.specs.Weight.{weight, parts_in}
use Rattle.lang.specs.Scope.{Binding, kinds}
use Rattle.lang.specs.Laws.{Small}
use Rattle.judging.specs.Notes.{note, index_of, notes}
use Rattle.judging.specs.Judging.{State, Fork, uses_at, parts_used, noted, weighing, popped, pushed, entered, left, with_forks, forked, fork, joined, filtering, mark, top}
use Rattle.judging.proofs.Marking.{flags, marked, marked-length, marked_inner, marked_twice}
use Rattle.judging.proofs.Forks.{marks, Inside, inside_marks, marks_none, marks_twice, marks_single, marks_inner, counted_small, kinds-length, scope_flags, parts-since}
use Rattle.judging.proofs.States.{after, made_same, Fine}

-- ---- leaves
pub con_state : {t : Ty} (s : State) (p : ℕ) (k : Scalar t) → noted (note t) (weighing 1 (pushed t s)) ≡ after {Γ = kinds s.scope} (con p k) s
unfolding free notes weight
con_state {t} s p k = made_same s.scope (t ∷ s.stack) (sym (marks_none (kinds s.scope) s.forks)) refl refl

pub var_state : {t : Ty} (s : State) (p : ℕ) (x : Var (kinds s.scope) t) →
    noted (record { type = t; index = index_of x } ∷ []) (weighing 1 (pushed t (with_forks (uses_at (length s.scope) (index_of x) s.forks) s))) ≡ after (var p x) s
unfolding free notes weight
var_state {t} s p x =
    made_same s.scope (t ∷ s.stack) (ap (λ n. uses_at n (index_of x) s.forks) (sym (kinds-length s.scope)) ∙ sym (marks_single x s.forks)) refl refl

pub group_state : {t : Ty} (s : State) (p : ℕ) (x : Expr (kinds s.scope) t) → weighing 1 (mark (after x s)) ≡ after (group p x) s
unfolding free notes weight
group_state {t} s p x = made_same s.scope (t ∷ s.stack) refl (simp append_assoc) (omega arith)

-- ---- a variable goes out of scope
marks_leave : (c : List Binding) (fs : List Fork) → Inside (length c) fs → (b : Bool) (m : Mask (kinds c)) →
    marks (b ∷ flags (kinds c) m) fs ≡ marks (flags (kinds c) m) fs
marks_leave c fs h b m = marks_inner b (flags (kinds c) m) fs (subst (λ n. Inside n fs) (sym (scope_flags c m)) h)

marks_bound : (c : List Binding) (fs : List Fork) → Inside (length c) fs → (a : Mask (kinds c)) (b : Bool) (m : Mask (kinds c)) →
    marks (b ∷ flags (kinds c) m) (marks (flags (kinds c) a) fs) ≡ marks (flags (kinds c) (union (kinds c) a m)) fs
marks_bound c fs h a b m =
    marks_leave c (marks (flags (kinds c) a) fs) (inside_marks (length c) (flags (kinds c) a) fs h) b m ∙ sym (marks_twice (kinds c) a m fs)

pub let_state : {t u : Ty} (s : State) → Fine s.scope s.forks → (n : Name) (p : ℕ) (x : Expr (kinds s.scope) t) (y : Expr (t ∷ kinds s.scope) u) →
    left (weighing 1 (mark (after y (popped 1 (entered n t (mark (after x s))))))) ≡ after (bind p x y) s
unfolding free notes weight
let_state {u = u} s f n p x y =
    made_same s.scope (u ∷ s.stack) (marks_bound s.scope s.forks f.inside (free x) (free y).0 (free y).1) (simp append_assoc) (omega arith)

-- ---- if: at the fork, and at the join
abbrev pub if_forked : State → State
if_forked s = weighing 1 (forked (popped 1 (mark s)))

abbrev pub if_joined : State → State
if_joined s = mark (weighing (parts_used s.scope (fork s).used + (1 + counted (top (popped 1 s)))) (joined (popped 1 s)))

marks_thrice : (Γ : List Ty) (fs : List Fork) (a b c : Mask Γ) →
    marks (flags Γ c) (marks (flags Γ b) (marks (flags Γ a) fs)) ≡ marks (flags Γ (union Γ a (union Γ b c))) fs
marks_thrice Γ fs a b c = sym (marks_twice Γ a (union Γ b c) fs ∙ marks_twice Γ b c (marks (flags Γ a) fs))

parts_twice : (c : List Binding) → Small c → (a b : Mask (kinds c)) →
    parts_used c (marked (flags (kinds c) b) (marked (flags (kinds c) a) (replicate (length c) false))) ≡ parts_in (kinds c) (union (kinds c) a b)
parts_twice c h a b = ap (parts_used c) (sym (marked_twice (kinds c) a b (replicate (length c) false))) ∙ parts-since c (union (kinds c) a b) h

pub if_state : {t : Ty} (s : State) → Fine s.scope s.forks → parts t ≤ 8 → (p : ℕ) (x : Expr (kinds s.scope) bool) (y z : Expr (kinds s.scope) t) →
    if_joined (after z (mark (after y (if_forked (after x s))))) ≡ after (ite p x y z) s
unfolding free notes weight
if_state {t} s f h p x y z =
    let k = counted_small t h in let e = parts_twice s.scope f.small (free y) (free z) in
    made_same s.scope (t ∷ s.stack) (marks_thrice (kinds s.scope) s.forks (free x) (free y) (free z)) (simp append_assoc) (omega arith)

-- ---- comprehensions
abbrev pub each_forked : Name → Ty → State → State
each_forked n a s = noted (note (list a)) (weighing (1 + counted (list a)) (entered n a (forked (popped 1 s))))

abbrev pub each_joined : Ty → State → State
each_joined b s = noted (note (list b)) (weighing (parts_used (drop 1 s.scope) (fork s).used + (1 + counted (list b))) (pushed (list b) (left (joined s))))

parts-bound : (c : List Binding) → Small c → (b : Bool) (m : Mask (kinds c)) →
    parts_used c (marked (b ∷ flags (kinds c) m) (replicate (length c) false)) ≡ parts_in (kinds c) m
parts-bound c h b m =
    ap (parts_used c) (marked_inner b (flags (kinds c) m) (replicate (length c) false) (omega (arith, length-replicate (length c) false, scope_flags c m))) ∙ parts-since c m h

parts-both : (c : List Binding) → Small c → (b d : Bool) (m n : Mask (kinds c)) →
    parts_used c (marked (d ∷ flags (kinds c) n) (marked (b ∷ flags (kinds c) m) (replicate (length c) false))) ≡ parts_in (kinds c) (union (kinds c) m n)
parts-both c h b d m n =
    let r : List Bool = replicate (length c) false in
    let i = marked_inner b (flags (kinds c) m) r (omega (arith, length-replicate (length c) false, scope_flags c m)) in
    let o = marked_inner d (flags (kinds c) n) (marked (flags (kinds c) m) r) (omega (arith, marked-length (flags (kinds c) m) r, length-replicate (length c) false, scope_flags c n)) in
    ap (λ us. parts_used c (marked (d ∷ flags (kinds c) n) us)) i ∙ ap (parts_used c) o ∙ parts_twice c h m n

pub over_state : {a u : Ty} (s : State) → Fine s.scope s.forks → parts (list a) ≤ 8 → parts (list u) ≤ 8 →
    (n : Name) (p : ℕ) (x : Expr (kinds s.scope) (list a)) (y : Expr (a ∷ kinds s.scope) u) →
    each_joined u (popped 1 (after y (each_forked n a (after x s)))) ≡ after (over p x y) s
unfolding free notes weight
over_state {a} {u} s f h l n p x y =
    let k = counted_small (list a) h in let j = counted_small (list u) l in let e = parts-bound s.scope f.small (free y).0 (free y).1 in
    made_same s.scope (list u ∷ s.stack) (marks_bound s.scope s.forks f.inside (free x) (free y).0 (free y).1) (simp append_assoc) (omega arith)

marks_both : (c : List Binding) (fs : List Fork) → Inside (length c) fs → (a : Mask (kinds c)) (b d : Bool) (m n : Mask (kinds c)) →
    marks (d ∷ flags (kinds c) n) (marks (b ∷ flags (kinds c) m) (marks (flags (kinds c) a) fs)) ≡ marks (flags (kinds c) (union (kinds c) a (union (kinds c) m n))) fs
marks_both c fs h a b d m n =
    let i = inside_marks (length c) (flags (kinds c) a) fs h in
    ap (marks (d ∷ flags (kinds c) n)) (marks_leave c (marks (flags (kinds c) a) fs) i b m) ∙
    marks_leave c (marks (flags (kinds c) m) (marks (flags (kinds c) a) fs)) (inside_marks (length c) (flags (kinds c) m) (marks (flags (kinds c) a) fs) i) d n ∙
    marks_thrice (kinds c) fs a m n

pub each_state : {a u : Ty} (s : State) → Fine s.scope s.forks → parts (list a) ≤ 8 → parts (list u) ≤ 8 →
    (n : Name) (p : ℕ) (x : Expr (kinds s.scope) (list a)) (k : Expr (a ∷ kinds s.scope) bool) (y : Expr (a ∷ kinds s.scope) u) →
    each_joined u (popped 1 (popped 1 (after y (filtering (mark (after k (each_forked n a (after x s)))))))) ≡ after (each p x k y) s
unfolding free notes weight
each_state {a} {u} s f h l n p x k y =
    let i = counted_small (list a) h in let j = counted_small (list u) l in
    let e = parts-both s.scope f.small (free k).0 (free y).0 (free k).1 (free y).1 in
    made_same s.scope (list u ∷ s.stack) (marks_both s.scope s.forks f.inside (free x) (free k).0 (free y).0 (free k).1 (free y).1) (simp append_assoc) (omega arith)
