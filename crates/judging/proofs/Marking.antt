-- Marking variables as used: a list of flags, innermost first, onto the flags of the variables that were in scope earlier.
use Rattle.std.proofs.Common.{◌≡◌, ℕ, suc, ◌-◌, ◌<◌, ◌≤◌, Bool, true, false, cond, ◌||◌, ltb, List, [], ◌∷◌, length, set, replicate, sym, refl, ap, ◌∙◌, inl, inr, arith}
use Rattle.std.proofs.lemmas.Bool.Decides.{nat_tests}
use Rattle.std.proofs.Math.Bool.{or-false, or-true, or_assoc}
use Rattle.std.proofs.lemmas.Bool.{lt-ltb, le-ltb, cases_lt}
use Rattle.std.proofs.lemmas.List.{length-replicate}
use Rattle.types.specs.Types.{Ty}
use Rattle.lang.specs.Expr.{Var, here, there, Mask, empty, single, union}
use Rattle.judging.specs.Notes.{index_of}
use Rattle.judging.specs.Judging.{used_at}

-- the flags of a set
abbrev pub flags : (Γ : List Ty) → Mask Γ → List Bool
flags [] m = []
flags (t ∷ Γ) m = m.0 ∷ flags Γ m.1

-- flag by flag, both innermost first
abbrev adding : List Bool → List Bool → List Bool
adding [] us = us
adding (f ∷ fs) [] = []
adding (f ∷ fs) (u ∷ us) = (u || f) ∷ adding fs us

-- the flags of variables that were bound since are dropped
unfoldable pub marked : List Bool → List Bool → List Bool
marked [] us = us
marked (f ∷ fs) us = cond (ltb (length fs) (length us)) (adding (f ∷ fs) us) (marked fs us)

-- ---- lengths
pub flags_length : (Γ : List Ty) (m : Mask Γ) → length (flags Γ m) ≡ length Γ
flags_length [] m = refl
flags_length (t ∷ Γ) m = ap suc (flags_length Γ m.1)

adding_length : (fs us : List Bool) → length (adding fs us) ≡ length us
adding_length [] us = refl
adding_length (f ∷ fs) [] = refl
adding_length (f ∷ fs) (u ∷ us) = ap suc (adding_length fs us)

marked_here : (f : Bool) (fs us : List Bool) → length fs < length us → marked (f ∷ fs) us ≡ adding (f ∷ fs) us
unfolding marked
marked_here f fs us h = ap (λ b. cond b (adding (f ∷ fs) us) (marked fs us)) (lt-ltb (length fs) (length us) h)

-- a variable that was bound since
pub marked_inner : (f : Bool) (fs us : List Bool) → length us ≤ length fs → marked (f ∷ fs) us ≡ marked fs us
unfolding marked
marked_inner f fs us h = ap (λ b. cond b (adding (f ∷ fs) us) (marked fs us)) (le-ltb (length fs) (length us) h)

pub marked-length : (fs us : List Bool) → length (marked fs us) ≡ length us
unfolding marked
marked-length [] us = refl
marked-length (f ∷ fs) us = elim (cases_lt (length fs) (length us)) [ inl h ↦ ap length (marked_here f fs us h) ∙ adding_length (f ∷ fs) us | inr h ↦ ap length (marked_inner f fs us h) ∙ marked-length fs us ]

-- ---- no variable
adding_none : (Γ : List Ty) (us : List Bool) → adding (flags Γ (empty Γ)) us ≡ us
adding_none [] us = refl
adding_none (t ∷ Γ) [] = refl
adding_none (t ∷ Γ) (u ∷ us) = rw (or-false u, adding_none Γ us)

pub marked_none : (Γ : List Ty) (us : List Bool) → marked (flags Γ (empty Γ)) us ≡ us
unfolding marked
marked_none [] us = refl
marked_none (t ∷ Γ) us = elim (cases_lt (length (flags Γ (empty Γ))) (length us)) [ inl h ↦ marked_here false (flags Γ (empty Γ)) us h ∙ adding_none (t ∷ Γ) us | inr h ↦ marked_inner false (flags Γ (empty Γ)) us h ∙ marked_none Γ us ]

-- ---- two sets
adding_twice : (Γ : List Ty) (a b : Mask Γ) (us : List Bool) → adding (flags Γ (union Γ a b)) us ≡ adding (flags Γ b) (adding (flags Γ a) us)
adding_twice [] a b us = refl
adding_twice (t ∷ Γ) a b [] = refl
adding_twice (t ∷ Γ) a b (u ∷ us) = rw (← or_assoc u a.0 b.0, adding_twice Γ a.1 b.1 us)

pub marked_twice : (Γ : List Ty) (a b : Mask Γ) (us : List Bool) → marked (flags Γ (union Γ a b)) us ≡ marked (flags Γ b) (marked (flags Γ a) us)
unfolding marked
marked_twice [] a b us = refl
marked_twice (t ∷ Γ) a b us = elim (cases_lt (length Γ) (length us)) [ inl h ↦ outer h | inr h ↦ inner h (marked_twice Γ a.1 b.1 us) ]
  where
    as_long : (m : Mask Γ) → length (flags Γ m) ≡ length Γ
    as_long m = flags_length Γ m

    here_flags : (m : Mask (t ∷ Γ)) (vs : List Bool) → length Γ < length vs → marked (flags (t ∷ Γ) m) vs ≡ adding (flags (t ∷ Γ) m) vs
    here_flags m vs h = marked_here m.0 (flags Γ m.1) vs (omega (arith, as_long m.1))

    inner_flags : (m : Mask (t ∷ Γ)) (vs : List Bool) → length vs ≤ length Γ → marked (flags (t ∷ Γ) m) vs ≡ marked (flags Γ m.1) vs
    inner_flags m vs h = marked_inner m.0 (flags Γ m.1) vs (omega (arith, as_long m.1))

    outer : length Γ < length us → marked (flags (t ∷ Γ) (union (t ∷ Γ) a b)) us ≡ marked (flags (t ∷ Γ) b) (marked (flags (t ∷ Γ) a) us)
    outer h =
        here_flags (union (t ∷ Γ) a b) us h ∙ adding_twice (t ∷ Γ) a b us ∙
        sym (here_flags b (adding (flags (t ∷ Γ) a) us) (omega (arith, adding_length (flags (t ∷ Γ) a) us))) ∙
        ap (marked (flags (t ∷ Γ) b)) (sym (here_flags a us h))

    inner : length us ≤ length Γ → marked (flags Γ (union Γ a.1 b.1)) us ≡ marked (flags Γ b.1) (marked (flags Γ a.1) us) →
        marked (flags (t ∷ Γ) (union (t ∷ Γ) a b)) us ≡ marked (flags (t ∷ Γ) b) (marked (flags (t ∷ Γ) a) us)
    inner h ih =
        inner_flags (union (t ∷ Γ) a b) us h ∙ ih ∙
        sym (inner_flags b (marked (flags Γ a.1) us) (omega (arith, marked-length (flags Γ a.1) us))) ∙
        ap (marked (flags (t ∷ Γ) b)) (sym (inner_flags a us h))

-- ---- one variable
adding_single : {Γ : List Ty} {t : Ty} (x : Var Γ t) (us : List Bool) → adding (flags Γ (single x)) us ≡ set us (index_of x) true
adding_single here [] = refl
adding_single (here {Γ = Γ}) (u ∷ us) = rw (or-true u, adding_none Γ us)
adding_single (there x) [] = refl
adding_single (there x) (u ∷ us) = rw (or-false u, adding_single x us)

used_out : (n k : ℕ) (us : List Bool) → k < n - length us → used_at n k us ≡ us
used_out n k us h = ap (λ b. cond b us (set us (k - (n - length us)) true)) (lt-ltb k (n - length us) h)

used-at : (n k : ℕ) (us : List Bool) → n - length us ≤ k → used_at n k us ≡ set us (k - (n - length us)) true
used-at n k us h = ap (λ b. cond b us (set us (k - (n - length us)) true)) (le-ltb k (n - length us) h)

used-set : (n k i : ℕ) (us : List Bool) → n - length us ≤ k → k - (n - length us) ≡ i → used_at n k us ≡ set us i true
used-set n k i us h e = used-at n k us h ∙ ap (λ j. set us j true) e

used-suc : (n k : ℕ) (us : List Bool) → length us ≤ n → used_at n k us ≡ used_at (suc n) (suc k) us
used-suc n k us h = grind (arith, nat_tests)

pub marked-single : {Γ : List Ty} {t : Ty} (x : Var Γ t) (us : List Bool) → marked (flags Γ (single x)) us ≡ used_at (length Γ) (index_of x) us
marked-single (here {t = t} {Γ = Γ}) us = elim (cases_lt (length Γ) (length us)) [
  | inl h ↦ marked_here true (flags Γ (empty Γ)) us (omega (arith, flags_length Γ (empty Γ))) ∙ adding_single (here {t = t} {Γ = Γ}) us ∙ sym (used-set (suc (length Γ)) 0 0 us (omega arith) (omega arith))
  | inr h ↦ marked_inner true (flags Γ (empty Γ)) us (omega (arith, flags_length Γ (empty Γ))) ∙ marked_none Γ us ∙ sym (used_out (suc (length Γ)) 0 us (omega arith))
]
marked-single (there {u = u} {Γ = Γ} x) us = elim (cases_lt (length Γ) (length us)) [
  | inl h ↦ marked_here false (flags Γ (single x)) us (omega (arith, flags_length Γ (single x))) ∙ adding_single (there {u = u} x) us ∙ sym (used-set (suc (length Γ)) (suc (index_of x)) (suc (index_of x)) us (omega arith) (omega arith))
  | inr h ↦ marked_inner false (flags Γ (single x)) us (omega (arith, flags_length Γ (single x))) ∙ marked-single x us ∙ used-suc (length Γ) (index_of x) us h
]

-- ---- all that were marked since a fork
adding_all : (fs : List Bool) → adding fs (replicate (length fs) false) ≡ fs
adding_all [] = refl
adding_all (f ∷ fs) = ap (λ gs. f ∷ gs) (adding_all fs)

pub marked_all : (fs : List Bool) → marked fs (replicate (length fs) false) ≡ fs
unfolding marked
marked_all [] = refl
marked_all (f ∷ fs) = marked_here f fs (replicate (length (f ∷ fs)) false) (omega (arith, length-replicate (length fs) false)) ∙ adding_all (f ∷ fs)
