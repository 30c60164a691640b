-- Marking variables as used in every open fork.
use Rattle.std.proofs.Common.{◌≡◌, ℕ, suc, ◌≤◌, Bool, false, List, [], ◌∷◌, length, replicate, sym, refl, ap, ◌∙◌, arith}
use Rattle.types.specs.Types.{Ty, parts}
use Rattle.types.specs.Entries.{counted}
use Rattle.lang.specs.Expr.{Var, Mask, empty, single, union}
use Rattle.lang.specs.Scope.{Binding, kinds}
use Rattle.lang.specs.Weight.{parts_of, parts_in}
use Rattle.lang.specs.Laws.{Small}
use Rattle.judging.specs.Notes.{index_of}
use Rattle.judging.specs.Judging.{Fork, uses_at, counted_of, parts_used}
use Rattle.judging.proofs.Marking.{flags, flags_length, marked, marked-length, marked_inner, marked_none, marked_twice, marked-single, marked_all}

abbrev pub marks : List Bool → List Fork → List Fork
marks us [] = []
marks us (f ∷ fs) = record { filtered = f.filtered; used = marked us f.used } ∷ marks us fs

-- no fork has more variables than these
abbrev pub Inside : ℕ → List Fork → Type 0
Inside n [] = Unit {0}
Inside n (f ∷ fs) = (length f.used ≤ n) × Inside n fs

fork-is : (b : Bool) {us vs : List Bool} {fs gs : List Fork} → us ≡ vs → fs ≡ gs →
    ◌≡◌ {A = List Fork} (record { filtered = b; used = us } ∷ fs) (record { filtered = b; used = vs } ∷ gs)
fork-is b {vs = vs} {fs = fs} p q = ap (λ us. record { filtered = b; used = us } ∷ fs) p ∙ ap (λ gs. record { filtered = b; used = vs } ∷ gs) q

pub marks_none : (Γ : List Ty) (fs : List Fork) → marks (flags Γ (empty Γ)) fs ≡ fs
marks_none Γ [] = refl
marks_none Γ (f ∷ fs) = fork-is f.filtered (marked_none Γ f.used) (marks_none Γ fs)

pub marks_twice : (Γ : List Ty) (a b : Mask Γ) (fs : List Fork) → marks (flags Γ (union Γ a b)) fs ≡ marks (flags Γ b) (marks (flags Γ a) fs)
marks_twice Γ a b [] = refl
marks_twice Γ a b (f ∷ fs) = fork-is f.filtered (marked_twice Γ a b f.used) (marks_twice Γ a b fs)

pub marks_single : {Γ : List Ty} {t : Ty} (x : Var Γ t) (fs : List Fork) → marks (flags Γ (single x)) fs ≡ uses_at (length Γ) (index_of x) fs
marks_single x [] = refl
marks_single x (f ∷ fs) = fork-is f.filtered (marked-single x f.used) (marks_single x fs)

-- where a binding's scope is left, its flag is dropped
pub marks_inner : (b : Bool) (us : List Bool) (fs : List Fork) → Inside (length us) fs → marks (b ∷ us) fs ≡ marks us fs
marks_inner b us [] h = refl
marks_inner b us (f ∷ fs) h = fork-is f.filtered (marked_inner b us f.used h.0) (marks_inner b us fs h.1)

pub inside_marks : (n : ℕ) (us : List Bool) (fs : List Fork) → Inside n fs → Inside n (marks us fs)
inside_marks n us [] h = tt
inside_marks n us (f ∷ fs) h = (omega (arith, marked-length us f.used, h.0), inside_marks n us fs h.1)

pub inside_more : (n m : ℕ) (fs : List Fork) → n ≤ m → Inside n fs → Inside m fs
inside_more n m [] l h = tt
inside_more n m (f ∷ fs) l h = (omega (arith, h.0), inside_more n m fs l h.1)

-- ---- parts
pub counted_small : (t : Ty) → parts t ≤ 8 → counted t ≡ parts t
counted_small t h = omega arith

abbrev pub AllSmall : List Ty → Type 0
AllSmall [] = Unit {0}
AllSmall (t ∷ ts) = (parts t ≤ 8) × AllSmall ts

pub counted-all : (ts : List Ty) → AllSmall ts → counted_of ts ≡ parts_of ts
counted-all [] h = refl
counted-all (t ∷ ts) h = omega (arith, counted_small t h.0, counted-all ts h.1)

used-parts : (s : List Binding) (m : Mask (kinds s)) → Small s → parts_used s (flags (kinds s) m) ≡ parts_in (kinds s) m
used-parts [] m h = refl
used-parts (b ∷ s) m h = rw (counted_small b.type h.0, used-parts s m.1 h.1)

pub kinds-length : (s : List Binding) → length (kinds s) ≡ length s
kinds-length [] = refl
kinds-length (b ∷ s) = ap suc (kinds-length s)

pub scope_flags : (s : List Binding) (m : Mask (kinds s)) → length (flags (kinds s) m) ≡ length s
scope_flags s m = flags_length (kinds s) m ∙ kinds-length s

-- at a fork no variable is used; at the join those that were marked since
pub parts-since : (s : List Binding) (m : Mask (kinds s)) → Small s → parts_used s (marked (flags (kinds s) m) (replicate (length s) false)) ≡ parts_in (kinds s) m
parts-since s m h =
    ap (λ n. parts_used s (marked (flags (kinds s) m) (replicate n false))) (sym (scope_flags s m)) ∙ ap (parts_used s) (marked_all (flags (kinds s) m)) ∙ used-parts s m h
