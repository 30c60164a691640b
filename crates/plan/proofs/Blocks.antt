-- The entries of an expression, the free variables of its forks and its uses of variables, written out.
use Rattle.std.proofs.Common.{◌≡◌, ℕ, ◌+◌, List, [], ◌∷◌, ◌++◌, length, refl, arith}
use Rattle.std.proofs.lemmas.List.{length-append}
use Rattle.types.specs.Types.{Ty}
use Rattle.lang.specs.Expr.{Expr, Args, con, group, var, bind, prim, ite, each, over, nil, more, Mask, union, free}
use Rattle.judging.specs.Notes.{index_of}
use Rattle.typing.specs.declared.parts.Use.{Use}
use Rattle.plan.specs.declared.table.Mark.{Mark}
use Rattle.plan.specs.declared.table.Entry.{Entry}
use Rattle.plan.specs.declared.table.Span.{Span}
use Rattle.plan.specs.declared.table.Free.{Free}
use Rattle.plan.specs.Boxes.{boxed, leaf_word, task_of, free_list}
use Rattle.plan.specs.Filling.{entry}

-- the free variables of a fork over Γ
abbrev pub its : (Γ : List Ty) → Mask Γ → List Free
its Γ m = free_list Γ m 0

abbrev pub span : ℕ → List Free → Span
span n fs = record { from = n; to = n + length fs }

-- where the entries of an expression end that begin at i
unfoldable mutual
  pub end : {Γ : List Ty} {t : Ty} → Expr Γ t → ℕ → ℕ
  end (con p k) i = i + 1
  end (group p e) i = end e i + 1
  end (var p x) i = i + 1
  end (bind p e b) i = end b (end e i + 1) + 1
  end (prim p o es) i = ends es i + 1
  end (ite p c a b) i = end b (end a (end c i + 1) + 1) + 1
  end (each p s f b) i = end b (end f (end s i + 1) + 1) + 1
  end (over p s b) i = end b (end s i + 1) + 1

  pub ends : {Γ ts : List Ty} → Args Γ ts → ℕ → ℕ
  ends nil i = i
  ends (more e es) i = ends es (end e i)

-- the free variables of all forks
unfoldable mutual
  pub forked : {Γ : List Ty} {t : Ty} → Expr Γ t → List Free
  forked (con p k) = []
  forked (group p e) = forked e
  forked (var p x) = []
  forked (bind p e b) = forked e ++ forked b
  forked (prim p o es) = forkeds es
  forked (ite {Γ} p c a b) = forked c ++ forked a ++ forked b ++ its Γ (union Γ (free a) (free b))
  forked (each {Γ} p s f b) = forked s ++ forked f ++ forked b ++ its Γ (union Γ (free f).1 (free b).1)
  forked (over {Γ} p s b) = forked s ++ forked b ++ its Γ (free b).1

  pub forkeds : {Γ ts : List Ty} → Args Γ ts → List Free
  forkeds nil = []
  forkeds (more e es) = forked e ++ forkeds es

-- where they end that begin at n
abbrev pub past : {Γ : List Ty} {t : Ty} → Expr Γ t → ℕ → ℕ
past e n = n + length (forked e)

-- the entries from i on, where n free variables came before
unfoldable mutual
  pub block : {Γ : List Ty} {t : Ty} → Expr Γ t → ℕ → ℕ → List Entry
  block (con p k) i n = entry (Mark.Leaf (leaf_word k)) p ∷ []
  block (group p e) i n = block e i n ++ entry Mark.Group p ∷ []
  block (var p x) i n = entry (Mark.Variable (index_of x)) p ∷ []
  block (bind p e b) i n = block e i n ++ entry Mark.Bind p ∷ [] ++ block b (end e i + 1) (past e n) ++ entry Mark.LetEnd p ∷ []
  block (prim p o es) i n = blocks es i n ++ entry (Mark.Basic (task_of o)) p ∷ []
  block (ite {Γ} {t} p c a b) i n =
      let j = end c i in let k = end a (j + 1) in let l = end b (k + 1) in
      block c i n ++ entry (Mark.IfFork (k + 1) (span (past b (past a (past c n))) (its Γ (union Γ (free a) (free b))))) p ∷ [] ++
      block a (j + 1) (past c n) ++ entry (Mark.IfElse l) p ∷ [] ++ block b (k + 1) (past a (past c n)) ++ entry (Mark.IfJoin (boxed t)) p ∷ []
  block (each {Γ} {b = u} p s f b) i n =
      let j = end s i in let k = end f (j + 1) in let l = end b (k + 1) in
      block s i n ++ entry (Mark.EachFork l (span (past b (past f (past s n))) (its Γ (union Γ (free f).1 (free b).1)))) p ∷ [] ++
      block f (j + 1) (past s n) ++ entry (Mark.EachFilter l) p ∷ [] ++ block b (k + 1) (past f (past s n)) ++ entry (Mark.EachJoin (j + 1) (boxed u)) p ∷ []
  block (over {Γ} {b = u} p s b) i n =
      let j = end s i in let l = end b (j + 1) in
      block s i n ++ entry (Mark.EachFork l (span (past b (past s n)) (its Γ (free b).1))) p ∷ [] ++
      block b (j + 1) (past s n) ++ entry (Mark.EachJoin (j + 1) (boxed u)) p ∷ []

  pub blocks : {Γ ts : List Ty} → Args Γ ts → ℕ → ℕ → List Entry
  blocks nil i n = []
  blocks (more e es) i n = block e i n ++ blocks es (end e i) (past e n)

-- the uses of variables
unfoldable mutual
  pub uses_in : {Γ : List Ty} {t : Ty} → Expr Γ t → List Use
  uses_in (con p k) = []
  uses_in (group p e) = uses_in e
  uses_in (var {Γ} p x) = record { depth = length Γ; index = index_of x } ∷ []
  uses_in (bind p e b) = uses_in e ++ uses_in b
  uses_in (prim p o es) = uses_of es
  uses_in (ite p c a b) = uses_in c ++ uses_in a ++ uses_in b
  uses_in (each p s f b) = uses_in s ++ uses_in f ++ uses_in b
  uses_in (over p s b) = uses_in s ++ uses_in b

  pub uses_of : {Γ ts : List Ty} → Args Γ ts → List Use
  uses_of nil = []
  uses_of (more e es) = uses_in e ++ uses_of es

-- ---- a block is as long as it is
mutual
  unfolding block blocks end ends

  pub block_ends : {Γ : List Ty} {t : Ty} (e : Expr Γ t) (i n : ℕ) → i + length (block e i n) ≡ end e i
  block_ends (con p k) i n = refl
  block_ends (group p e) i n = simp length-append (omega (arith, block_ends e i n))
  block_ends (var p x) i n = refl
  block_ends (bind p e b) i n = simp length-append (omega (arith, block_ends e i n, block_ends b (end e i + 1) (past e n)))
  block_ends (prim p o es) i n = simp length-append (omega (arith, blocks_end es i n))
  block_ends (ite p c a b) i n =
      simp length-append (omega (arith, block_ends c i n, block_ends a (end c i + 1) (past c n), block_ends b (end a (end c i + 1) + 1) (past a (past c n))))
  block_ends (each p s f b) i n =
      simp length-append (omega (arith, block_ends s i n, block_ends f (end s i + 1) (past s n), block_ends b (end f (end s i + 1) + 1) (past f (past s n))))
  block_ends (over p s b) i n = simp length-append (omega (arith, block_ends s i n, block_ends b (end s i + 1) (past s n)))

  pub blocks_end : {Γ ts : List Ty} (es : Args Γ ts) (i n : ℕ) → i + length (blocks es i n) ≡ ends es i
  blocks_end nil i n = omega arith
  blocks_end (more e es) i n = simp length-append (omega (arith, block_ends e i n, blocks_end es (end e i) (past e n)))
