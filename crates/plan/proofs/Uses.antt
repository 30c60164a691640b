-- The free variables of an expression, by its uses of variables.
use Rattle.std.proofs.Common.{◌≡◌, ℕ, suc, ◌≤◌, Bool, false, cond, List, [], ◌∷◌, ◌++◌, map, length, replicate, sym, refl, ap, ◌∙◌, arith}
use Rattle.std.proofs.lemmas.Grind.{common_steps}
use Rattle.std.proofs.lemmas.List.{append_assoc, length-map, length-replicate}
use Rattle.types.specs.Types.{Ty}
use Rattle.lang.specs.Expr.{Expr, Args, con, group, var, bind, prim, ite, each, over, nil, more, Mask, union, free, frees}
use Rattle.judging.proofs.Marking.{flags, marked, flags_length, marked_inner, marked-length, marked_none, marked_twice, marked-single, marked_all}
use Rattle.typing.specs.declared.parts.Use.{Use}
use Rattle.typing.specs.Codes.{replay}
use Rattle.plan.specs.Boxes.{boxed, free_list}
use Rattle.plan.specs.Filling.{gathered, flagged}
use Rattle.plan.proofs.Blocks.{its, uses_in, uses_of}

replay-append : (xs ys : List Use) (us : List Bool) → replay (xs ++ ys) us ≡ replay ys (replay xs us)
replay-append [] ys us = refl
replay-append (x ∷ xs) ys us = replay-append xs ys _

-- what is marked in turn
two_marks : (Γ : List Ty) (a b : Mask Γ) (xs ys : List Use) (us : List Bool) → length us ≤ length Γ → replay xs us ≡ marked (flags Γ a) us →
    ((vs : List Bool) → length vs ≤ length Γ → replay ys vs ≡ marked (flags Γ b) vs) → replay (xs ++ ys) us ≡ marked (flags Γ (union Γ a b)) us
two_marks Γ a b xs ys us le h k = grind (arith, common_steps, replay-append, marked, flags, marked-length, marked_twice)

-- a variable bound since is none of the earlier ones
inside : (t : Ty) (Γ : List Ty) (m : Mask (t ∷ Γ)) (xs : List Use) (us : List Bool) → length us ≤ length Γ → replay xs us ≡ marked (flags (t ∷ Γ) m) us → replay xs us ≡ marked (flags Γ m.1) us
inside t Γ m xs us le h = grind (arith, common_steps, marked_inner, flags, flags_length)

mutual
  unfolding uses_in uses_of free frees

  pub marks : {Γ : List Ty} {t : Ty} (e : Expr Γ t) (us : List Bool) → length us ≤ length Γ → replay (uses_in e) us ≡ marked (flags Γ (free e)) us
  marks (con {Γ} p k) us le = sym (marked_none Γ us)
  marks (group p e) us le = marks e us le
  marks (var p x) us le = sym (marked-single x us)
  marks (bind {Γ} {t} p e b) us le =
      two_marks Γ (free e) (free b).1 (uses_in e) (uses_in b) us le (marks e us le) (λ vs l. inside t Γ (free b) (uses_in b) vs l (marks b vs (omega arith)))
  marks (prim p o es) us le = all_marks es us le
  marks (ite {Γ} p c a b) us le =
      ap (λ xs. replay xs us) (append_assoc (uses_in c) (uses_in a) (uses_in b)) ∙
      two_marks Γ (free c) (union Γ (free a) (free b)) (uses_in c) (uses_in a ++ uses_in b) us le (marks c us le) λ vs l.
      two_marks Γ (free a) (free b) (uses_in a) (uses_in b) vs l (marks a vs l) (marks b)
  marks (each {Γ} {a} p s f b) us le =
      ap (λ xs. replay xs us) (append_assoc (uses_in s) (uses_in f) (uses_in b)) ∙
      two_marks Γ (free s) (union Γ (free f).1 (free b).1) (uses_in s) (uses_in f ++ uses_in b) us le (marks s us le) λ vs l.
      two_marks Γ (free f).1 (free b).1 (uses_in f) (uses_in b) vs l (inside a Γ (free f) (uses_in f) vs l (marks f vs (omega arith)))
      (λ ws l. inside a Γ (free b) (uses_in b) ws l (marks b ws (omega arith)))
  marks (over {Γ} {a} p s b) us le =
      two_marks Γ (free s) (free b).1 (uses_in s) (uses_in b) us le (marks s us le) (λ vs l. inside a Γ (free b) (uses_in b) vs l (marks b vs (omega arith)))

  all_marks : {Γ ts : List Ty} (es : Args Γ ts) (us : List Bool) → length us ≤ length Γ → replay (uses_of es) us ≡ marked (flags Γ (frees es)) us
  all_marks (nil {Γ}) us le = sym (marked_none Γ us)
  all_marks (more {Γ} e es) us le = two_marks Γ (free e) (frees es) (uses_in e) (uses_of es) us le (marks e us le) (all_marks es)

-- ---- the flags that are left
gathered_flags : (Γ : List Ty) (m : Mask Γ) (n : ℕ) → gathered (flags Γ m) (map boxed Γ) n ≡ free_list Γ m n
gathered_flags [] m n = refl
gathered_flags (t ∷ Γ) m n = ap (λ r. cond m.0 (record { index = n; boxed = boxed t } ∷ r) r) (gathered_flags Γ m.1 (suc n))

-- uses that mark a set of variables
abbrev pub Marks : (Γ : List Ty) → Mask Γ → List Use → Type 0
Marks Γ m xs = (us : List Bool) → length us ≤ length Γ → replay xs us ≡ marked (flags Γ m) us

pub marks_two : {Γ : List Ty} {t u : Ty} (a : Expr Γ t) (b : Expr Γ u) → Marks Γ (union Γ (free a) (free b)) (uses_in a ++ uses_in b)
marks_two {Γ} a b us le = two_marks Γ (free a) (free b) (uses_in a) (uses_in b) us le (marks a us le) (marks b)

pub marks_inner : {Γ : List Ty} {t u : Ty} (b : Expr (t ∷ Γ) u) → Marks Γ (free b).1 (uses_in b)
marks_inner {Γ} {t} b us le = inside t Γ (free b) (uses_in b) us le (marks b us (omega arith))

pub marks_inners : {Γ : List Ty} {t u v : Ty} (a : Expr (t ∷ Γ) u) (b : Expr (t ∷ Γ) v) → Marks Γ (union Γ (free a).1 (free b).1) (uses_in a ++ uses_in b)
marks_inners {Γ} a b us le = two_marks Γ (free a).1 (free b).1 (uses_in a) (uses_in b) us le (marks_inner a us le) (marks_inner b)

pub found : (Γ : List Ty) (m : Mask Γ) (xs : List Use) (sc : List Bool) → sc ≡ map boxed Γ → Marks Γ m xs → gathered (flagged xs (length sc)) sc 0 ≡ its Γ m
found Γ m xs sc e h =
    ap (λ bs. gathered (flagged xs (length bs)) bs 0) e ∙ ap (λ k. gathered (flagged xs k) (map boxed Γ) 0) (length-map Γ boxed ∙ sym (flags_length Γ m)) ∙
    ap (λ us. gathered us (map boxed Γ) 0) (h (replicate (length (flags Γ m)) false) (omega (arith, length-replicate (length (flags Γ m)) false, flags_length Γ m)) ∙ marked_all (flags Γ m)) ∙
    gathered_flags Γ m 0
