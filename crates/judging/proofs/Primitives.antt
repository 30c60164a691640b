-- Judging a tree's occurrences is elaborating it: primitives.
use Rattle.std.proofs.Common.{◌≡◌, ℕ, ◌+◌, ◌≤◌, Bool, true, false, cond, leb, List, [], ◌∷◌, ◌++◌, length, sym, refl, ap, ◌∙◌, arith}
use Rattle.std.proofs.lemmas.List.{append_assoc}
use Rattle.std.proofs.lemmas.Bool.{leb-true}
use Rattle.grammar.specs.declared.occurrence.Occurrence.{Occurrence}
use Rattle.grammar.specs.declared.occurrence.What.{What}
use Rattle.grammar.specs.declared.occurrence.Infix.{Infix}
use Rattle.grammar.specs.declared.occurrence.Unary.{Unary}
use Rattle.grammar.specs.declared.occurrence.Operation.{Operation}
use Rattle.grammar.specs.Tree.{Tree, Fold, scan, reduce, occ, occs, count}
use Rattle.types.specs.Types.{Ty, list, parts}
use Rattle.types.specs.Entries.{counted}
use Rattle.lang.specs.Outcome.{then}
use Rattle.lang.specs.Scope.{Binding, kinds}
use Rattle.lang.specs.Expr.{hollow, prim, nil, more, free, frees}
use Rattle.lang.specs.Weight.{weight, weights}
use Rattle.lang.specs.Rules.{Verdict, gives, large, limit, infix_rule, pair_rule, index_rule, part_rule, unary_rule, fold_rule, empty_rule, list_rule}
use Rattle.lang.specs.Elaborate.{Operands, judged, one as one_of_lem, two as two_of, hollow_list, elaborate, elements}
use Rattle.lang.specs.Laws.{Small}
use Rattle.lang.proofs.Sound.{Holds, after as then_holds, long_last}
use Rattle.judging.specs.Notes.{note, notes, notes_of}
use Rattle.judging.specs.Judging.{State, counted_of, noted, weighing, pushed, popped, node_of, one, two, step, judge}
use Rattle.judging.proofs.Forks.{AllSmall, marks_none, counted_small}
use Rattle.judging.proofs.Outcomes.{then-holding, Slim, slim}
use Rattle.judging.proofs.States.{after, spent, stacked, made_same, Fine, fine_marks}
use Rattle.judging.proofs.Operands.{one-spent, two-spent, first_stacked, more_stacked, stacked_operands, stacked_popped}
use Rattle.judging.proofs.Steps.{node_then, list_then}
use Rattle.judging.proofs.Judges.{Judges, on, join_3}
use Rattle.judging.proofs.Types.{Writing, wrote}

-- ---- one operand, and two
module _ {a : Tree} (i : Judges a) where
  one-run : (p : ℕ) (w : What) (rule : (t : Ty) → Verdict (t ∷ [])) → ((s : State) → step w p s ≡ one p rule s) →
      (s : State) → Fine s.scope s.forks → (rest : List Occurrence) → Holds (Slim {Γ = kinds s.scope}) (one_of_lem p rule (elaborate a s.scope)) →
      judge (occs a ++ occ w p ++ rest) s ≡ then (one_of_lem p rule (elaborate a s.scope)) (λ y. judge rest (after y.1 s))
  one-run p w rule is s h rest q =
      ap (λ l. judge l s) (append_assoc (occs a) (occ w p) rest) ∙ on i s h (occ w p ++ rest) Slim _ _ q λ x l q.
      ap (λ m. then m (λ s. judge rest s)) (is (after x.1 s)) ∙
      node_then p (rule x.0) (more x.1 nil) s (popped 1 (after x.1 s)) rest q (l, tt) (one-spent s x.1)

  pub judges_unary : (p : ℕ) (o : Unary) → Judges (Tree.apply p o a)
  unfolding elaborate
  judges_unary p o = record { run = λ s h rest. one-run p (What.Apply o) (unary_rule o) (λ s. refl) s h rest (slim (Tree.apply p o a) s.scope h.small) }

  pub judges_fold : (p : ℕ) (f : Fold) (o : Operation) → Judges (Tree.fold p f o a)
  unfolding elaborate
  judges_fold p scan o = record { run = λ s h rest. one-run p (What.Scan o) (fold_rule scan o) (λ s. refl) s h rest (slim (Tree.fold p scan o a) s.scope h.small) }
  judges_fold p reduce o = record { run = λ s h rest. one-run p (What.Reduce o) (fold_rule reduce o) (λ s. refl) s h rest (slim (Tree.fold p reduce o a) s.scope h.small) }

module _ {a b : Tree} (i : Judges a) (j : Judges b) where
  two_run : (p : ℕ) (w : What) (rule : (t u : Ty) → Verdict (t ∷ u ∷ [])) → ((s : State) → step w p s ≡ two p rule s) →
      (s : State) → Fine s.scope s.forks → (rest : List Occurrence) →
      Holds (Slim {Γ = kinds s.scope}) (two_of p rule (elaborate a s.scope) (elaborate b s.scope)) →
      judge (occs a ++ occs b ++ occ w p ++ rest) s ≡ then (two_of p rule (elaborate a s.scope) (elaborate b s.scope)) (λ y. judge rest (after y.1 s))
  two_run p w rule is s h rest q =
      ap (λ l. judge l s) (join_3 (occs a) (occs b) (occ w p) rest) ∙ on i s h (occs b ++ (occ w p ++ rest)) Slim _ _ q λ x l q.
      on j (after x.1 s) (fine_marks h _) (occ w p ++ rest) Slim _ _ q λ y m q.
      ap (λ m. then m (λ s. judge rest s)) (is (after y.1 (after x.1 s))) ∙
      node_then p (rule x.0 y.0) (more x.1 (more y.1 nil)) s (popped 2 (after y.1 (after x.1 s))) rest q (l, (m, tt)) (two-spent s x.1 y.1)

  pub judges_infix : (p : ℕ) (o : Infix) → Judges (Tree.operate p o a b)
  unfolding elaborate
  judges_infix p o = record { run = λ s h rest. two_run p (What.Operate o) (infix_rule o) (λ s. refl) s h rest (slim (Tree.operate p o a b) s.scope h.small) }

  pub judges_index : (p : ℕ) → Judges (Tree.index p a b)
  unfolding elaborate
  judges_index p = record { run = λ s h rest. two_run p What.Index index_rule (λ s. refl) s h rest (slim (Tree.index p a b) s.scope h.small) }

  pub judges_pair : (p : ℕ) → Judges (Tree.pair p a b)
  unfolding elaborate
  judges_pair p = record { run = λ s h rest. two_run p What.Pair pair_rule (λ s. refl) s h rest (slim (Tree.pair p a b) s.scope h.small) }

  pub judges_part : (p : ℕ) → Judges (Tree.part p a b)
  unfolding elaborate
  judges_part p = record { run = λ s h rest. two_run p What.Part part_rule (λ s. refl) s h rest (slim (Tree.part p a b) s.scope h.small) }

-- ---- the empty list of a written type
hollow_state : (s : State) (p : ℕ) (t : Ty) → parts (list t) ≤ 8 →
    noted (note (list t)) (weighing (1 + counted_of [] + counted (list t)) (pushed (list t) (popped 1 (wrote t s)))) ≡ after {Γ = kinds s.scope} (prim p (hollow t) nil) s
unfolding free frees notes notes_of weight weights
hollow_state s p t h =
    let k = counted_small (list t) h in
    made_same s.scope (list t ∷ s.stack) (sym (marks_none (kinds s.scope) s.forks)) (simp append_assoc) (omega arith)

hollow_then : (s : State) (p : ℕ) (t : Ty) (rest : List Occurrence) →
    then (node_of p [] (empty_rule t) (popped 1 (wrote t s))) (λ s. judge rest s) ≡ then (judged {Γ = kinds s.scope} p (empty_rule t) nil) (λ y. judge rest (after y.1 s))
hollow_then s p t rest = by (leb (parts (list t)) limit) refl
  where
    by : (b : Bool) → leb (parts (list t)) limit ≡ b →
        then (node_of p [] (cond b (gives (list t) (hollow t)) large) (popped 1 (wrote t s))) (λ s. judge rest s) ≡
        then (judged {Γ = kinds s.scope} p (cond b (gives (list t) (hollow t)) large) nil) (λ y. judge rest (after y.1 s))
    by true e = ap (judge rest) (hollow_state s p t (leb-true _ _ e))
    by false e = refl

pub judges_empty : {q : ℕ} {a : Tree} (p : ℕ) → Writing q a → Judges (Tree.empty p a)
unfolding elaborate
judges_empty {a = a} p w = record {
  run = λ s h rest.
      ap (λ l. judge l s) (append_assoc (occs a) (occ What.Empty p) rest) ∙ w.run s (occ What.Empty p ++ rest) ∙ hollow_then s p w.type rest ∙
      ap (λ o. then (hollow_list {Γ = kinds s.scope} p o) (λ y. judge rest (after y.1 s))) (sym w.is);
}

-- ---- the elements of a list in brackets
abbrev Counted : Tree → {Γ : List Ty} → Operands Γ → Type 0
Counted es xs = AllSmall xs.0 × (length xs.0 ≡ count es)

pub record JudgesAll (es : Tree) : Type 0 where
  pub run : (s : State) → Fine s.scope s.forks → (rest : List Occurrence) →
      judge (occs es ++ rest) s ≡ then (elements es s.scope) (λ xs. judge rest (stacked xs.0 (spent xs.1 s)))
  pub counts : (c : List Binding) → Small c → Holds (Counted es {Γ = kinds c}) (elements es c)

first-counts : (a : Tree) (c : List Binding) → Small c → Holds (Counted (Tree.first a) {Γ = kinds c}) (elements (Tree.first a) c)
unfolding elements
first-counts a c h = then_holds (Slim {Γ = kinds c}) (Counted (Tree.first a) {Γ = kinds c}) (elaborate a c) _ (slim a c h) λ x l. ((l, tt), refl)

pub all_first : {a : Tree} → Judges a → JudgesAll (Tree.first a)
unfolding elements
all_first {a} j = record {
  run = λ s h rest. on j s h rest (Counted (Tree.first a) {Γ = kinds s.scope}) _ _ (first-counts a s.scope h.small) λ x l q. ap (judge rest) (first_stacked s x.1);
  counts = first-counts a;
}

small_last : (ts : List Ty) (t : Ty) → AllSmall ts → parts t ≤ 8 → AllSmall (ts ++ (t ∷ []))
small_last [] t h l = (l, tt)
small_last (u ∷ ts) t h l = (h.0, small_last ts t h.1 l)

more_counts : {es : Tree} → JudgesAll es → (a : Tree) (c : List Binding) → Small c → Holds (Counted (Tree.more es a) {Γ = kinds c}) (elements (Tree.more es a) c)
unfolding elements
more_counts {es} i a c h =
    then_holds (Counted es {Γ = kinds c}) (Counted (Tree.more es a) {Γ = kinds c}) (elements es c) _ (i.counts c h) λ xs k.
    then_holds (Slim {Γ = kinds c}) (Counted (Tree.more es a) {Γ = kinds c}) (elaborate a c) _ (slim a c h) λ x l.
    (small_last xs.0 x.0 k.0 l, long_last xs.0 x.0 ∙ ap (λ n. n + 1) k.1)

pub all_more : {es a : Tree} → JudgesAll es → Judges a → JudgesAll (Tree.more es a)
unfolding elements
all_more {es} {a} i j = record {
  run = λ s h rest.
      ap (λ l. judge l s) (append_assoc (occs es) (occs a) rest) ∙ i.run s h (occs a ++ rest) ∙
      then-holding (Counted es {Γ = kinds s.scope}) (Counted (Tree.more es a) {Γ = kinds s.scope}) (elements es s.scope) _ _ _ (i.counts s.scope h.small)
      (more_counts i a s.scope h.small) λ xs k q.
      on j (stacked xs.0 (spent xs.1 s)) (fine_marks h _) rest (Counted (Tree.more es a) {Γ = kinds s.scope}) _ _ q λ x l q.
      ap (judge rest) (more_stacked s xs.1 x.1);
  counts = more_counts i a;
}

pub judges_list : {es : Tree} (p : ℕ) → JudgesAll es → Judges (Tree.list p es)
unfolding elaborate
judges_list {es} p i = record {
  run = λ s h rest.
      let o : List Occurrence = occ (What.List (count es)) p in
      ap (λ l. judge l s) (append_assoc (occs es) o rest) ∙ i.run s h (o ++ rest) ∙
      then-holding (Counted es {Γ = kinds s.scope}) Slim (elements es s.scope) _ _ _ (i.counts s.scope h.small) (slim (Tree.list p es) s.scope h.small) λ xs k q.
      let r : State = popped (count es) (stacked xs.0 (spent xs.1 s)) in
      ap (λ us. then (node_of p us (list_rule us) r) (λ s. judge rest s)) (stacked_operands (count es) xs.0 s.stack k.1) ∙
      list_then p xs.0 xs.1 s r rest q k.0 (stacked_popped (count es) xs.0 (spent xs.1 s) k.1);
}
