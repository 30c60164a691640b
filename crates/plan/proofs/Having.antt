-- A table that has the entries of an expression and the free variables of its forks has the expression.
use Rattle.std.proofs.Common.{◌≡◌, ℕ, ◌+◌, List, [], ◌∷◌, ◌++◌, length, ◌∙◌, arith}
use Rattle.std.proofs.lemmas.Grind.{common_steps}
use Rattle.std.proofs.lemmas.List.{append_assoc, length-append, get_or_at, take_at, drop_at}
use Rattle.types.specs.Types.{Ty}
use Rattle.lang.specs.Expr.{Expr, Args, con, group, var, bind, prim, ite, each, over, nil, more, union, free}
use Rattle.plan.specs.declared.table.Mark.{Mark}
use Rattle.plan.specs.declared.table.Entry.{Entry}
use Rattle.plan.specs.declared.table.Free.{Free}
use Rattle.plan.specs.Boxes.{boxed, task_of, part}
use Rattle.plan.specs.Filling.{entry}
use Rattle.plan.specs.Planned.{Stands, Planned, p_con, p_group, p_var, p_bind, p_prim, p_ite, p_each, p_over, PlannedArgs, p_nil, p_more}
use Rattle.plan.proofs.Blocks.{its, span, end, ends, forked, forkeds, past, block, blocks, block_ends, blocks_end}

-- the entry behind the first ones
stands : (os pre post : List Entry) (m : Mark) (p i : ℕ) → length pre ≡ i → os ≡ pre ++ entry m p ∷ [] ++ post → Stands os i m p
stands os pre post m p i ei e = grind (arith, common_steps, length-append, append_assoc, get_or_at)

part-is : (fs pre l post : List Free) (n : ℕ) → length pre ≡ n → fs ≡ pre ++ l ++ post → part fs (span n l) ≡ l
part-is fs pre l post n en e = grind (arith, common_steps, length-append, take_at, drop_at)

module _ (os : List Entry) (fs : List Free) where
  -- os and fs have these parts one after the other
  mutual
    unfolding end ends forked forkeds block blocks

    pub planned : {Γ : List Ty} {t : Ty} (e : Expr Γ t) (i n : ℕ) (pre post : List Entry) (fpre fpost : List Free) → length pre ≡ i → length fpre ≡ n →
        os ≡ pre ++ block e i n ++ post → fs ≡ fpre ++ forked e ++ fpost → Planned os fs Γ t e i (end e i)
    planned (con p k) i n pre post fpre fpost ei en eo ef = p_con (stands os pre post _ p i ei eo)
    planned (group p e) i n pre post fpre fpost ei en eo ef =
        p_group (planned e i n pre (entry Mark.Group p ∷ [] ++ post) fpre fpost ei en (eo ∙ simp append_assoc) ef)
        (stands os (pre ++ block e i n) post _ p (end e i) (simp length-append (omega (arith, block_ends e i n))) (eo ∙ simp append_assoc))
    planned (var p x) i n pre post fpre fpost ei en eo ef = p_var (stands os pre post _ p i ei eo)
    planned (bind p e b) i n pre post fpre fpost ei en eo ef =
        let j = end e i in
        p_bind
        (planned e i n pre (entry Mark.Bind p ∷ [] ++ block b (j + 1) (past e n) ++ entry Mark.LetEnd p ∷ [] ++ post) fpre (forked b ++ fpost) ei en (eo ∙ simp append_assoc) (ef ∙ simp append_assoc))
        (stands os (pre ++ block e i n) (block b (j + 1) (past e n) ++ entry Mark.LetEnd p ∷ [] ++ post) _ p j (simp length-append (omega (arith, block_ends e i n))) (eo ∙ simp append_assoc))
        (planned b (j + 1) (past e n) (pre ++ block e i n ++ entry Mark.Bind p ∷ []) (entry Mark.LetEnd p ∷ [] ++ post) (fpre ++ forked e) fpost (simp length-append (omega (arith, block_ends e i n))) (simp length-append (omega arith)) (eo ∙ simp append_assoc) (ef ∙ simp append_assoc))
        (stands os (pre ++ block e i n ++ entry Mark.Bind p ∷ [] ++ block b (j + 1) (past e n)) post _ p (end b (j + 1)) (simp length-append (omega (arith, block_ends e i n, block_ends b (j + 1) (past e n)))) (eo ∙ simp append_assoc))
    planned (prim p o es) i n pre post fpre fpost ei en eo ef =
        p_prim (all_planned es i n pre (entry (Mark.Basic (task_of o)) p ∷ [] ++ post) fpre fpost ei en (eo ∙ simp append_assoc) ef)
        (stands os (pre ++ blocks es i n) post _ p (ends es i) (simp length-append (omega (arith, blocks_end es i n))) (eo ∙ simp append_assoc))
    planned (ite {Γ} {t} p c a b) i n pre post fpre fpost ei en eo ef =
        let j = end c i in let k = end a (j + 1) in let l = end b (k + 1) in
        let bc = block c i n in let ba = block a (j + 1) (past c n) in let bb = block b (k + 1) (past a (past c n)) in
        let fk = entry (Mark.IfFork (k + 1) (span (past b (past a (past c n))) (its Γ (union Γ (free a) (free b))))) p ∷ [] in
        let el = entry (Mark.IfElse l) p ∷ [] in let jn = entry (Mark.IfJoin (boxed t)) p ∷ [] in
        p_ite {s = span (past b (past a (past c n))) (its Γ (union Γ (free a) (free b)))} (planned c i n pre (fk ++ ba ++ el ++ bb ++ jn ++ post) fpre (forked a ++ forked b ++ its Γ (union Γ (free a) (free b)) ++ fpost) ei en (eo ∙ simp append_assoc) (ef ∙ simp append_assoc))
        (stands os (pre ++ bc) (ba ++ el ++ bb ++ jn ++ post) _ p j (simp length-append (omega (arith, block_ends c i n))) (eo ∙ simp append_assoc))
        (part-is fs (fpre ++ forked c ++ forked a ++ forked b) (its Γ (union Γ (free a) (free b))) fpost (past b (past a (past c n))) (simp length-append (omega arith)) (ef ∙ simp append_assoc))
        (planned a (j + 1) (past c n) (pre ++ bc ++ fk) (el ++ bb ++ jn ++ post) (fpre ++ forked c) (forked b ++ its Γ (union Γ (free a) (free b)) ++ fpost) (simp length-append (omega (arith, block_ends c i n))) (simp length-append (omega arith)) (eo ∙ simp append_assoc) (ef ∙ simp append_assoc))
        (stands os (pre ++ bc ++ fk ++ ba) (bb ++ jn ++ post) _ p k (simp length-append (omega (arith, block_ends c i n, block_ends a (j + 1) (past c n)))) (eo ∙ simp append_assoc))
        (planned b (k + 1) (past a (past c n)) (pre ++ bc ++ fk ++ ba ++ el) (jn ++ post) (fpre ++ forked c ++ forked a) (its Γ (union Γ (free a) (free b)) ++ fpost) (simp length-append (omega (arith, block_ends c i n, block_ends a (j + 1) (past c n)))) (simp length-append (omega arith)) (eo ∙ simp append_assoc) (ef ∙ simp append_assoc))
        (stands os (pre ++ bc ++ fk ++ ba ++ el ++ bb) post _ p l (simp length-append (omega (arith, block_ends c i n, block_ends a (j + 1) (past c n), block_ends b (k + 1) (past a (past c n))))) (eo ∙ simp append_assoc))
    planned (each {Γ} {b = u} p s f b) i n pre post fpre fpost ei en eo ef =
        let j = end s i in let k = end f (j + 1) in let l = end b (k + 1) in
        let bs = block s i n in let bf = block f (j + 1) (past s n) in let bb = block b (k + 1) (past f (past s n)) in
        let own = its Γ (union Γ (free f).1 (free b).1) in
        let fk = entry (Mark.EachFork l (span (past b (past f (past s n))) own)) p ∷ [] in
        let fl = entry (Mark.EachFilter l) p ∷ [] in let jn = entry (Mark.EachJoin (j + 1) (boxed u)) p ∷ [] in
        p_each {q = span (past b (past f (past s n))) own} (planned s i n pre (fk ++ bf ++ fl ++ bb ++ jn ++ post) fpre (forked f ++ forked b ++ own ++ fpost) ei en (eo ∙ simp append_assoc) (ef ∙ simp append_assoc))
        (stands os (pre ++ bs) (bf ++ fl ++ bb ++ jn ++ post) _ p j (simp length-append (omega (arith, block_ends s i n))) (eo ∙ simp append_assoc))
        (part-is fs (fpre ++ forked s ++ forked f ++ forked b) own fpost (past b (past f (past s n))) (simp length-append (omega arith)) (ef ∙ simp append_assoc))
        (planned f (j + 1) (past s n) (pre ++ bs ++ fk) (fl ++ bb ++ jn ++ post) (fpre ++ forked s) (forked b ++ own ++ fpost) (simp length-append (omega (arith, block_ends s i n))) (simp length-append (omega arith)) (eo ∙ simp append_assoc) (ef ∙ simp append_assoc))
        (stands os (pre ++ bs ++ fk ++ bf) (bb ++ jn ++ post) _ p k (simp length-append (omega (arith, block_ends s i n, block_ends f (j + 1) (past s n)))) (eo ∙ simp append_assoc))
        (planned b (k + 1) (past f (past s n)) (pre ++ bs ++ fk ++ bf ++ fl) (jn ++ post) (fpre ++ forked s ++ forked f) (own ++ fpost) (simp length-append (omega (arith, block_ends s i n, block_ends f (j + 1) (past s n)))) (simp length-append (omega arith)) (eo ∙ simp append_assoc) (ef ∙ simp append_assoc))
        (stands os (pre ++ bs ++ fk ++ bf ++ fl ++ bb) post _ p l (simp length-append (omega (arith, block_ends s i n, block_ends f (j + 1) (past s n), block_ends b (k + 1) (past f (past s n))))) (eo ∙ simp append_assoc))
    planned (over {Γ} {b = u} p s b) i n pre post fpre fpost ei en eo ef =
        let j = end s i in let l = end b (j + 1) in
        let bs = block s i n in let bb = block b (j + 1) (past s n) in
        let own = its Γ (free b).1 in
        let fk = entry (Mark.EachFork l (span (past b (past s n)) own)) p ∷ [] in let jn = entry (Mark.EachJoin (j + 1) (boxed u)) p ∷ [] in
        p_over {q = span (past b (past s n)) own} (planned s i n pre (fk ++ bb ++ jn ++ post) fpre (forked b ++ own ++ fpost) ei en (eo ∙ simp append_assoc) (ef ∙ simp append_assoc))
        (stands os (pre ++ bs) (bb ++ jn ++ post) _ p j (simp length-append (omega (arith, block_ends s i n))) (eo ∙ simp append_assoc))
        (part-is fs (fpre ++ forked s ++ forked b) own fpost (past b (past s n)) (simp length-append (omega arith)) (ef ∙ simp append_assoc))
        (planned b (j + 1) (past s n) (pre ++ bs ++ fk) (jn ++ post) (fpre ++ forked s) (own ++ fpost) (simp length-append (omega (arith, block_ends s i n))) (simp length-append (omega arith)) (eo ∙ simp append_assoc) (ef ∙ simp append_assoc))
        (stands os (pre ++ bs ++ fk ++ bb) post _ p l (simp length-append (omega (arith, block_ends s i n, block_ends b (j + 1) (past s n)))) (eo ∙ simp append_assoc))

    all_planned : {Γ ts : List Ty} (es : Args Γ ts) (i n : ℕ) (pre post : List Entry) (fpre fpost : List Free) → length pre ≡ i → length fpre ≡ n →
        os ≡ pre ++ blocks es i n ++ post → fs ≡ fpre ++ forkeds es ++ fpost → PlannedArgs os fs Γ ts es i (ends es i)
    all_planned nil i n pre post fpre fpost ei en eo ef = p_nil
    all_planned (more e es) i n pre post fpre fpost ei en eo ef =
        p_more (planned e i n pre (blocks es (end e i) (past e n) ++ post) fpre (forkeds es ++ fpost) ei en (eo ∙ simp append_assoc) (ef ∙ simp append_assoc))
        (all_planned es (end e i) (past e n) (pre ++ block e i n) post (fpre ++ forked e) fpost (simp length-append (omega (arith, block_ends e i n))) (simp length-append (omega arith)) (eo ∙ simp append_assoc) (ef ∙ simp append_assoc))
