-- What it is for a table to have an expression.
use Rattle.std.specs.Prelude.{◌≡◌, ℕ, ◌+◌, ◌<◌, List, [], ◌∷◌, length, slice_index_or}
use Rattle.types.specs.Types.{Ty, bool, list}
use Rattle.lang.specs.Expr.{Var, Scalar, Op, Expr, Args, con, group, var, bind, prim, ite, each, over, nil, more, union, free}
use Rattle.judging.specs.Notes.{index_of}
use Rattle.plan.specs.declared.table.Mark.{Mark}
use Rattle.plan.specs.declared.table.Entry.{Entry}
use Rattle.plan.specs.declared.table.Free.{Free}
use Rattle.plan.specs.declared.table.Span.{Span}
use Rattle.plan.specs.Boxes.{boxed, leaf_word, task_of, free_list, part}

abbrev pub blank : Entry
blank = record { mark = Mark.LetEnd; place = 0 }

-- the entry at a place of the table
pub record Stands (os : List Entry) (i : ℕ) (k : Mark) (p : ℕ) : Type 0 where
  pub within : i < length os
  pub is : slice_index_or os i blank ≡ record { mark = k; place = p }

module _ (os : List Entry) (fs : List Free) where
  mutual
    -- the occurrences of e stand from the place i up to j
    pub data Planned : (Γ : List Ty) (t : Ty) → Expr Γ t → ℕ → ℕ → Type 0 where
      p_con : {Γ : List Ty} {t : Ty} {p : ℕ} {k : Scalar t} {i : ℕ} → Stands os i (Mark.Leaf (leaf_word k)) p → Planned Γ t (con p k) i (i + 1)
      p_group : {Γ : List Ty} {t : Ty} {p : ℕ} {e : Expr Γ t} {i j : ℕ} → Planned Γ t e i j → Stands os j Mark.Group p → Planned Γ t (group p e) i (j + 1)
      p_var : {Γ : List Ty} {t : Ty} {p : ℕ} {x : Var Γ t} {i : ℕ} → Stands os i (Mark.Variable (index_of x)) p → Planned Γ t (var p x) i (i + 1)
      p_bind : {Γ : List Ty} {t u : Ty} {p : ℕ} {e : Expr Γ t} {b : Expr (t ∷ Γ) u} {i j k : ℕ} →
          Planned Γ t e i j → Stands os j Mark.Bind p → Planned (t ∷ Γ) u b (j + 1) k → Stands os k Mark.LetEnd p → Planned Γ u (bind p e b) i (k + 1)
      p_prim : {Γ ts : List Ty} {t : Ty} {p : ℕ} {o : Op ts t} {es : Args Γ ts} {i j : ℕ} →
          PlannedArgs Γ ts es i j → Stands os j (Mark.Basic (task_of o)) p → Planned Γ t (prim p o es) i (j + 1)
      p_ite : {Γ : List Ty} {t : Ty} {p : ℕ} {c : Expr Γ bool} {a b : Expr Γ t} {i j k l : ℕ} {s : Span} →
          Planned Γ bool c i j → Stands os j (Mark.IfFork (k + 1) s) p → part fs s ≡ free_list Γ (union Γ (free a) (free b)) 0 →
          Planned Γ t a (j + 1) k → Stands os k (Mark.IfElse l) p → Planned Γ t b (k + 1) l → Stands os l (Mark.IfJoin (boxed t)) p →
          Planned Γ t (ite p c a b) i (l + 1)
      p_each : {Γ : List Ty} {a u : Ty} {p : ℕ} {s : Expr Γ (list a)} {f : Expr (a ∷ Γ) bool} {b : Expr (a ∷ Γ) u} {i j k l : ℕ} {q : Span} →
          Planned Γ (list a) s i j → Stands os j (Mark.EachFork l q) p → part fs q ≡ free_list Γ (union Γ (free f).1 (free b).1) 0 →
          Planned (a ∷ Γ) bool f (j + 1) k → Stands os k (Mark.EachFilter l) p → Planned (a ∷ Γ) u b (k + 1) l →
          Stands os l (Mark.EachJoin (j + 1) (boxed u)) p → Planned Γ (list u) (each p s f b) i (l + 1)
      p_over : {Γ : List Ty} {a u : Ty} {p : ℕ} {s : Expr Γ (list a)} {b : Expr (a ∷ Γ) u} {i j l : ℕ} {q : Span} →
          Planned Γ (list a) s i j → Stands os j (Mark.EachFork l q) p → part fs q ≡ free_list Γ (free b).1 0 →
          Planned (a ∷ Γ) u b (j + 1) l → Stands os l (Mark.EachJoin (j + 1) (boxed u)) p → Planned Γ (list u) (over p s b) i (l + 1)

    pub data PlannedArgs : (Γ ts : List Ty) → Args Γ ts → ℕ → ℕ → Type 0 where
      p_nil : {Γ : List Ty} {i : ℕ} → PlannedArgs Γ [] nil i i
      p_more : {Γ ts : List Ty} {t : Ty} {e : Expr Γ t} {es : Args Γ ts} {i j k : ℕ} → Planned Γ t e i j → PlannedArgs Γ ts es j k → PlannedArgs Γ (t ∷ ts) (more e es) i k
