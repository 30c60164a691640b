-- Operands on the stack, and the primitive that takes them off.
use Rattle.std.proofs.Common.{◌≡◌, ℕ, ◌+◌, ◌≤◌, List, [], ◌∷◌, ◌++◌, reverse, length, take, drop, sym, refl, ap, ◌∙◌, arith}
use Rattle.std.proofs.Math.Seq.{take-append_seam, drop-append_seam}
use Rattle.std.proofs.lemmas.List.{append_assoc, append-nil, reverse-append, reverse-reverse, length-reverse}
use Rattle.types.specs.Types.{Ty, parts}
use Rattle.types.specs.Entries.{counted}
use Rattle.lang.specs.Expr.{empty, union, Op, infix_op, mkpair, first, second, bracket, index, len_op, range_op, flat_op, part_op, scan_op, reduce_op}
use Rattle.lang.specs.Expr.{Expr, Args, free, frees, prim, nil, more}
use Rattle.lang.specs.Weight.{weight, weights}
use Rattle.lang.specs.Elaborate.{add_last}
use Rattle.judging.specs.Notes.{note, notes, notes_of, written_in}
use Rattle.judging.specs.Judging.{State, Fork, counted_of, noted, weighing, popped, pushed}
use Rattle.judging.proofs.Marking.{flags}
use Rattle.judging.proofs.Forks.{marks, marks_none, marks_twice, AllSmall, counted_small, counted-all}
use Rattle.judging.proofs.States.{after, spent, stacked, made, made_same}

-- a primitive of one operand or more writes no type
none_written : {a t : Ty} {ts : List Ty} (o : Op (a ∷ ts) t) → written_in o ≡ []
none_written (infix_op o) = refl
none_written mkpair = refl
none_written first = refl
none_written second = refl
none_written (bracket k a) = refl
none_written index = refl
none_written len_op = refl
none_written range_op = refl
none_written flat_op = refl
none_written part_op = refl
none_written (scan_op o) = refl
none_written (reduce_op o) = refl

pub prim_state : {Γ : List Ty} {a t : Ty} {ts : List Ty} (s : State) (p : ℕ) (o : Op (a ∷ ts) t) (es : Args Γ (a ∷ ts)) → AllSmall (a ∷ ts) → parts t ≤ 8 →
    noted (note t) (weighing (1 + counted_of (a ∷ ts) + counted t) (pushed t (spent es s))) ≡ after (prim p o es) s
unfolding free notes weight
prim_state {a = a} {t = t} {ts = ts} s p o es h l =
    let k = counted_small t l in let j = counted-all (a ∷ ts) h in
    made_same s.scope (t ∷ s.stack) refl (simp (none_written o, append_assoc)) (omega arith)

-- ---- one operand, and two
pub one-spent : {Γ : List Ty} {a : Ty} (s : State) (x : Expr Γ a) → popped 1 (after x s) ≡ spent (more x nil) s
unfolding frees notes_of weights
one-spent {Γ} s x =
    made_same s.scope s.stack (sym (marks_twice Γ (free x) (empty Γ) s.forks ∙ marks_none Γ (marks (flags Γ (free x)) s.forks))) (simp append-nil) (omega arith)

pub two-spent : {Γ : List Ty} {a b : Ty} (s : State) (x : Expr Γ a) (y : Expr Γ b) → popped 2 (after y (after x s)) ≡ spent (more x (more y nil)) s
unfolding frees notes_of weights
two-spent {Γ} s x y =
    let m : List Fork = marks (flags Γ (free x)) s.forks in
    made_same s.scope s.stack
    (sym (marks_twice Γ (free x) (union Γ (free y) (empty Γ)) s.forks ∙ marks_twice Γ (free y) (empty Γ) m ∙ marks_none Γ (marks (flags Γ (free y)) m)))
    (simp (append-nil, append_assoc)) (omega arith)

-- ---- the elements of a list in brackets
last_marks : {Γ ts : List Ty} {t : Ty} (es : Args Γ ts) (x : Expr Γ t) (fs : List Fork) →
    marks (flags Γ (free x)) (marks (flags Γ (frees es)) fs) ≡ marks (flags Γ (frees (add_last es x))) fs
unfolding frees
last_marks (nil {Γ}) x fs = ap (marks (flags Γ (free x))) (marks_none Γ fs) ∙ sym (marks_twice Γ (free x) (empty Γ) fs ∙ marks_none Γ (marks (flags Γ (free x)) fs))
last_marks (more {Γ} e es) x fs =
    ap (marks (flags Γ (free x))) (marks_twice Γ (free e) (frees es) fs) ∙ last_marks es x (marks (flags Γ (free e)) fs) ∙ sym (marks_twice Γ (free e) (frees (add_last es x)) fs)

pub last_notes : {Γ ts : List Ty} {t : Ty} (es : Args Γ ts) (x : Expr Γ t) → notes_of (add_last es x) ≡ notes_of es ++ notes x
unfolding notes_of
last_notes nil x = append-nil (notes x)
last_notes (more e es) x = ap (λ ns. notes e ++ ns) (last_notes es x) ∙ sym (append_assoc (notes e) (notes_of es) (notes x))

last_weight : {Γ ts : List Ty} {t : Ty} (es : Args Γ ts) (x : Expr Γ t) → weights (add_last es x) ≡ weights es + weight x
unfolding weights
last_weight nil x = omega arith
last_weight (more e es) x = omega (arith, last_weight es x)

pub first_stacked : {Γ : List Ty} {a : Ty} (s : State) (x : Expr Γ a) → after x s ≡ stacked (a ∷ []) (spent (more x nil) s)
first_stacked {a = a} s x = ap (λ (r : State). made r.scope (a ∷ r.stack) r.forks r.notes r.weight) (one-spent s x)

pub more_stacked : {Γ ts : List Ty} {a : Ty} (s : State) (es : Args Γ ts) (x : Expr Γ a) →
    after x (stacked ts (spent es s)) ≡ stacked (ts ++ (a ∷ [])) (spent (add_last es x) s)
more_stacked {ts = ts} {a = a} s es x =
    made_same s.scope (a ∷ (reverse ts ++ s.stack)) (last_marks es x s.forks) (append_assoc s.notes (notes_of es) (notes x) ∙ ap (λ ns. s.notes ++ ns) (sym (last_notes es x)))
    (omega (arith, last_weight es x)) ∙
    ap (λ k. made s.scope (k ++ s.stack) (marks (flags _ (frees (add_last es x))) s.forks) (s.notes ++ notes_of (add_last es x)) (s.weight + weights (add_last es x))) (sym (reverse-append ts (a ∷ [])))

pub stacked_operands : (n : ℕ) (ts : List Ty) (k : List Ty) → length ts ≡ n → reverse (take n (reverse ts ++ k)) ≡ ts
stacked_operands n ts k e =
    ap (λ m. reverse (take m (reverse ts ++ k))) (sym e ∙ sym (length-reverse ts)) ∙ ap reverse (take-append_seam (reverse ts) k) ∙ reverse-reverse ts

pub stacked_popped : (n : ℕ) (ts : List Ty) (s : State) → length ts ≡ n → popped n (stacked ts s) ≡ s
stacked_popped n ts s e =
    ap (λ k. made s.scope k s.forks s.notes s.weight) (ap (λ m. drop m (reverse ts ++ s.stack)) (sym e ∙ sym (length-reverse ts)) ∙ drop-append_seam (reverse ts) s.stack)
