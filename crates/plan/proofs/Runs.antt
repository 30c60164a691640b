-- Filling a table with the typed occurrences of an expression adds its entries, its free variables and its uses.
use Rattle.std.proofs.Common.{◌≡◌, ℕ, ◌+◌, List, [], ◌∷◌, ◌++◌, map, length, refl, ap, ◌∙◌, arith}
use Rattle.std.proofs.lemmas.List.{append-nil, append_assoc, length-append, length-map}
use Rattle.types.specs.Types.{Ty, int, bool, pair, list}
use Rattle.lang.specs.Expr.{Op, infix_op, mkpair, first, second, bracket, hollow, index, len_op, range_op, flat_op, part_op, scan_op, reduce_op, number, truth}
use Rattle.lang.specs.Expr.{Expr, Args, con, group, var, bind, prim, ite, each, over, nil, more, union, free}
use Rattle.judging.specs.Acts.{Act, TypedOccurrence}
use Rattle.judging.specs.Occurrences.{type_occs, op_occs, typed_occs, typed_occs_of}
use Rattle.typing.specs.declared.parts.Use.{Use}
use Rattle.plan.specs.declared.table.Mark.{Mark}
use Rattle.plan.specs.declared.table.Entry.{Entry}
use Rattle.plan.specs.declared.table.Free.{Free}
use Rattle.plan.specs.Boxes.{boxed, task_of}
use Rattle.plan.specs.Filling.{Filling, filling, added, step, one, run}
use Rattle.plan.proofs.Blocks.{its, end, ends, forked, forkeds, past, block, blocks, block_ends, uses_in, uses_of}
use Rattle.plan.proofs.Uses.{marks_two, marks_inner, marks_inners, found}
use Rattle.plan.proofs.Joins.{choice_joined, each_swept, over_swept}

pub run-append : (xs ys : List TypedOccurrence) (s : Filling) → run (xs ++ ys) s ≡ run ys (run xs s)
run-append [] ys s = refl
run-append (x ∷ xs) ys s = run-append xs ys (one x s)

-- what is added
abbrev pub grown : List Entry → List Free → List Use → Filling → Filling
grown es fs us s = filling (s.entries ++ es) (s.frees ++ fs) s.scope s.forks (s.uses ++ us)

-- a written type adds nothing
pub types_run : (t : Ty) (s : Filling) → run (type_occs t) s ≡ s
types_run int s = refl
types_run bool s = refl
types_run (pair a b) s = simp (run-append, types_run a, types_run b)
types_run (list a) s = simp (run-append, types_run a)

op_run : {ts : List Ty} {t : Ty} (p : ℕ) (o : Op ts t) (s : Filling) → run (op_occs p o) s ≡ added (Mark.Basic (task_of o)) p s
op_run p (infix_op o) s = refl
op_run p mkpair s = refl
op_run p first s = refl
op_run p second s = refl
op_run p (bracket k a) s = refl
op_run p (hollow a) s = simp (run-append, types_run)
op_run p index s = refl
op_run p len_op s = refl
op_run p range_op s = refl
op_run p flat_op s = refl
op_run p part_op s = refl
op_run p (scan_op o) s = refl
op_run p (reduce_op o) s = refl

mutual
  unfolding typed_occs typed_occs_of end ends forked forkeds block blocks uses_in uses_of

  pub runs : {Γ : List Ty} {t : Ty} (e : Expr Γ t) (s : Filling) (i n : ℕ) → length s.entries ≡ i → length s.frees ≡ n → s.scope ≡ map boxed Γ →
      run (typed_occs e) s ≡ grown (block e i n) (forked e) (uses_in e) s
  runs (con p (number k)) s i n ei en h = simp append-nil
  runs (con p (truth b)) s i n ei en h = simp append-nil
  runs (group {t = t} p e) s i n ei en h = let he = runs e s i n ei en h in simp (run-append, he, append_assoc)
  runs (var p x) s i n ei en h = simp (append-nil, h, length-map)
  runs (bind {Γ} {t} {u} p e b) s i n ei en h =
      let s2 = step Act.bind p t (grown (block e i n) (forked e) (uses_in e) s) in
      let he = runs e s i n ei en h in
      let hb = runs b s2 (end e i + 1) (past e n) (simp length-append (omega (arith, block_ends e i n))) (simp length-append (omega arith)) (ap (λ l. boxed t ∷ l) h) in
      simp (run-append, he, hb) (simp append_assoc)
  runs (prim p o es) s i n ei en h = let hs = all-run es s i n ei en h in simp (run-append, hs, op_run, append_assoc)
  runs (ite {Γ} {t} p c a b) s i n ei en h =
      let j = end c i in let k = end a (j + 1) in
      let s2 = step Act.if_fork p bool (grown (block c i n) (forked c) (uses_in c) s) in
      let s4 = step Act.if_else p t (grown (block a (j + 1) (past c n)) (forked a) (uses_in a) s2) in
      let s5 = grown (block b (k + 1) (past a (past c n))) (forked b) (uses_in b) s4 in
      let long : length s4.entries ≡ k + 1 = simp length-append (omega (arith, block_ends c i n, block_ends a (j + 1) (past c n))) in
      let all : length s5.entries ≡ end b (k + 1) = simp length-append (omega (arith, block_ends c i n, block_ends a (j + 1) (past c n), block_ends b (k + 1) (past a (past c n)))) in
      let many : length s5.frees ≡ past b (past a (past c n)) = simp length-append (omega arith) in
      let hc = runs c s i n ei en h in
      let ha = runs a s2 (j + 1) (past c n) (simp length-append (omega (arith, block_ends c i n))) (simp length-append (omega arith)) h in
      let hb = runs b s4 (k + 1) (past a (past c n)) long (simp length-append (omega arith)) h in
      simp (run-append, hc, ha, hb) (
      ap (λ us. step Act.if_join p t (filling s5.entries s5.frees s.scope s5.forks us)) (append_assoc (s.uses ++ uses_in c) (uses_in a) (uses_in b)) ∙
      choice_joined s5.frees (its Γ (union Γ (free a) (free b))) s.scope s.forks (s.uses ++ uses_in c) (uses_in a ++ uses_in b) (boxed t) p (past b (past a (past c n)))
      (found Γ (union Γ (free a) (free b)) (uses_in a ++ uses_in b) s.scope h (marks_two a b)) many
      (s.entries ++ block c i n) (block a (j + 1) (past c n)) (block b (k + 1) (past a (past c n))) _ _ (k + 1) (end b (k + 1)) long all ∙
      simp append_assoc)
  runs (each {Γ} {a} {b = u} p l f b) s i n ei en h =
      let j = end l i in let k = end f (j + 1) in
      let s2 = step Act.each_fork p (list a) (grown (block l i n) (forked l) (uses_in l) s) in
      let s4 = step Act.each_filter p bool (grown (block f (j + 1) (past l n)) (forked f) (uses_in f) s2) in
      let s5 = grown (block b (k + 1) (past f (past l n))) (forked b) (uses_in b) s4 in
      let in_scope : s2.scope ≡ map boxed (a ∷ Γ) = ap (λ bs. boxed a ∷ bs) h in
      let first : length s2.entries ≡ j + 1 = simp length-append (omega (arith, block_ends l i n)) in
      let long : length s4.entries ≡ k + 1 = simp length-append (omega (arith, block_ends l i n, block_ends f (j + 1) (past l n))) in
      let all : length s5.entries ≡ end b (k + 1) = simp length-append (omega (arith, block_ends l i n, block_ends f (j + 1) (past l n), block_ends b (k + 1) (past f (past l n)))) in
      let many : length s5.frees ≡ past b (past f (past l n)) = simp length-append (omega arith) in
      let hl = runs l s i n ei en h in
      let hf = runs f s2 (j + 1) (past l n) first (simp length-append (omega arith)) in_scope in
      let hb = runs b s4 (k + 1) (past f (past l n)) long (simp length-append (omega arith)) in_scope in
      simp (run-append, hl, hf, hb) (
      ap (λ us. step Act.each_join p (list u) (filling s5.entries s5.frees s5.scope s5.forks us)) (append_assoc (s.uses ++ uses_in l) (uses_in f) (uses_in b)) ∙
      each_swept s5.frees (its Γ (union Γ (free f).1 (free b).1)) s.scope s.forks (s.uses ++ uses_in l) (uses_in f ++ uses_in b) (boxed u) p (past b (past f (past l n)))
      (found Γ (union Γ (free f).1 (free b).1) (uses_in f ++ uses_in b) s.scope h (marks_inners f b)) many
      (s.entries ++ block l i n) (block f (j + 1) (past l n)) (block b (k + 1) (past f (past l n))) _ _ (j + 1) (end b (k + 1)) first all ∙
      simp append_assoc)
  runs (over {Γ} {a} {b = u} p l b) s i n ei en h =
      let j = end l i in
      let s2 = step Act.each_fork p (list a) (grown (block l i n) (forked l) (uses_in l) s) in
      let s5 = grown (block b (j + 1) (past l n)) (forked b) (uses_in b) s2 in
      let first : length s2.entries ≡ j + 1 = simp length-append (omega (arith, block_ends l i n)) in
      let all : length s5.entries ≡ end b (j + 1) = simp length-append (omega (arith, block_ends l i n, block_ends b (j + 1) (past l n))) in
      let many : length s5.frees ≡ past b (past l n) = simp length-append (omega arith) in
      let hl = runs l s i n ei en h in
      let hb = runs b s2 (j + 1) (past l n) first (simp length-append (omega arith)) (ap (λ bs. boxed a ∷ bs) h) in
      simp (run-append, hl, hb) (
      over_swept s5.frees (its Γ (free b).1) s.scope s.forks (s.uses ++ uses_in l) (uses_in b) (boxed u) p (past b (past l n))
      (found Γ (free b).1 (uses_in b) s.scope h (marks_inner b)) many
      (s.entries ++ block l i n) (block b (j + 1) (past l n)) _ (j + 1) (end b (j + 1)) first all ∙
      simp append_assoc)

  all-run : {Γ ts : List Ty} (es : Args Γ ts) (s : Filling) (i n : ℕ) → length s.entries ≡ i → length s.frees ≡ n → s.scope ≡ map boxed Γ →
      run (typed_occs_of es) s ≡ grown (blocks es i n) (forkeds es) (uses_of es) s
  all-run nil s i n ei en h = simp append-nil
  all-run (more e es) s i n ei en h =
      let he = runs e s i n ei en h in
      let hs = all-run es (grown (block e i n) (forked e) (uses_in e) s) (end e i) (past e n) (simp length-append (omega (arith, block_ends e i n))) (simp length-append (omega arith)) h in
      simp (run-append, he, hs) (simp append_assoc)
