-- Judging a tree's occurrences is elaborating it: if, and comprehensions.
use Rattle.std.proofs.Common.{ℕ, cond, leb, List, ◌∷◌, ◌++◌, ap, ◌∙◌, arith}
use Rattle.tokens.specs.declared.kind.Name.{Name}
use Rattle.grammar.specs.declared.occurrence.Occurrence.{Occurrence}
use Rattle.grammar.specs.declared.occurrence.What.{What}
use Rattle.grammar.specs.Tree.{Tree, occ, occs}
use Rattle.types.specs.Types.{Ty, bool, list, parts, same}
use Rattle.lang.specs.Outcome.{Out, ok, then, refuse}
use Rattle.lang.specs.Rules.{limit}
use Rattle.lang.specs.Expr.{Expr, over, each}
use Rattle.lang.specs.Elaborate.{elaborate}
use Rattle.judging.specs.Judging.{State, popped, filtering, mark, fits, judge}
use Rattle.judging.proofs.Outcomes.{then_assoc, Slim, slim}
use Rattle.judging.proofs.States.{after, Fine, fine_marks, fine_fork, fine_filter, fine_entered}
use Rattle.judging.proofs.Nodes.{if_forked, if_joined, if_state, each_forked, each_joined, over_state, each_state}
use Rattle.judging.proofs.Steps.{fits-then, rows_then, within-then}
use Rattle.judging.proofs.Judges.{Judges, on, join_4, join_6}

pub judges_if : {c a b : Tree} (p : ℕ) → Judges c → Judges a → Judges b → Judges (Tree.choice p c a b)
unfolding elaborate
judges_if {c} {a} {b} p i j k = record {
  run = λ s h rest.
      let last : List Occurrence = occ What.IfJoin p ++ rest in
      let others : List Occurrence = occs a ++ (occ What.IfElse p ++ (occs b ++ last)) in
      ap (λ l. judge l s) (join_6 (occs c) (occ What.IfFork p) (occs a) (occ What.IfElse p) (occs b) (occ What.IfJoin p) rest) ∙
      on i s h (occ What.IfFork p ++ others) Slim _ _ (slim (Tree.choice p c a b) s.scope h.small) λ x l q.
      then_assoc (fits (same x.0 bool) p (after x.1 s)) (λ r. ok (if_forked r)) (λ r. judge others r) ∙
      fits-then Slim (same x.0 bool) p x.1 (λ t y. after y s) _ _ (λ r. judge others (if_forked r)) q λ y q.
      on j (if_forked (after y s)) (fine_fork (fine_marks h _)) (occ What.IfElse p ++ (occs b ++ last)) Slim _ _ q λ z m q.
      let r : State = mark (after z.1 (if_forked (after y s))) in
      on k r (fine_marks (fine_fork (fine_marks h _)) _) last Slim _ _ q λ w o q.
      then_assoc (fits (same w.0 z.0) p (after w.1 r)) (λ r. ok (if_joined r)) (λ r. judge rest r) ∙
      fits-then Slim (same w.0 z.0) p w.1 (λ t v. after v r) _ _ (λ r. judge rest (if_joined r)) q λ v q.
      ap (judge rest) (if_state s h m p y z.1 v);
}

pub judges_each : {b l : Tree} (p : ℕ) (n : Name) → Judges b → Judges l → Judges (Tree.each p n b l)
unfolding elaborate
judges_each {b} {l} p n i j = record {
  run = λ s h rest.
      let last : List Occurrence = occ What.EachJoin p ++ rest in
      ap (λ l. judge l s) (join_4 (occs l) (occ (What.EachFork n) p) (occs b) (occ What.EachJoin p) rest) ∙
      on j s h (occ (What.EachFork n) p ++ (occs b ++ last)) Slim _ _ (slim (Tree.each p n b l) s.scope h.small) λ x k q.
      rows_then Slim p n x.0 x.1 (λ t y. after y s) _ _ (λ r. judge (occs b ++ last) r) k q λ a y m q.
      let r : State = each_forked n a (after y s) in
      on i r (fine_entered (fine_fork (fine_marks h _)) n a (omega arith)) last Slim _ _ q λ z o q.
      within-then p z.0 (over p y z.1) (each_joined z.0 (popped 1 (after z.1 r))) _ (λ r. judge rest r) q λ o.
      ap (judge rest) (over_state s h m o n p y z.1);
}

pub judges_sieve : {b l f : Tree} (p : ℕ) (n : Name) → Judges b → Judges l → Judges f → Judges (Tree.sieve p n b l f)
unfolding elaborate
judges_sieve {b} {l} {f} p n i j g = record {
  run = λ s h rest.
      let last : List Occurrence = occ What.EachJoin p ++ rest in
      let others : List Occurrence = occs f ++ (occ What.EachFilter p ++ (occs b ++ last)) in
      ap (λ l. judge l s) (join_6 (occs l) (occ (What.EachFork n) p) (occs f) (occ What.EachFilter p) (occs b) (occ What.EachJoin p) rest) ∙
      on j s h (occ (What.EachFork n) p ++ others) Slim _ _ (slim (Tree.sieve p n b l f) s.scope h.small) λ x k q.
      rows_then Slim p n x.0 x.1 (λ t y. after y s) _ _ (λ r. judge others r) k q λ a y m q.
      let r : State = each_forked n a (after y s) in
      let fine : Fine r.scope r.forks = fine_entered (fine_fork (fine_marks h _)) n a (omega arith) in
      on g r fine (occ What.EachFilter p ++ (occs b ++ last)) Slim _ _ q λ w _ q.
      on i (filtering (mark (after w.1 r))) (fine_filter (fine_marks fine _)) last Slim _ _ q λ z _ q.
      let end : State → Out State = λ r. cond (leb (parts (list z.0)) limit) (ok (each_joined z.0 r)) (refuse 7 p) in
      let low : (t : Ty) → Expr (a ∷ _) t → State = λ t v. popped 1 (popped 1 (after z.1 (filtering (mark (after v r))))) in
      then_assoc (fits (same w.0 bool) p (low w.0 w.1)) end (λ r. judge rest r) ∙
      fits-then Slim (same w.0 bool) p w.1 low _ _ (λ r. then (end r) (λ r. judge rest r)) q λ v q.
      within-then p z.0 (each p y v z.1) (each_joined z.0 (low bool v)) _ (λ r. judge rest r) q λ o.
      ap (judge rest) (each_state s h m o n p y v z.1);
}
