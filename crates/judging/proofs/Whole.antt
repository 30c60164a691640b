-- Judging the occurrences of a program is checking it.
use Rattle.std.proofs.Common.{◌≡◌, ℕ, ◌+◌, ◌≤◌, Bool, true, false, cond, leb, List, [], ◌∷◌, ◌++◌, sym, ap, ◌∙◌, subst, zero-add}
use mathlib.Core.Path as P
use mathlib.Core.Option.{Option, none, some}
use Rattle.std.proofs.lemmas.List.{append-nil}
use Rattle.std.proofs.lemmas.Bool.{leb-true}
use Rattle.tokens.specs.declared.kind.Name.{Name}
use Rattle.grammar.specs.declared.occurrence.Occurrence.{Occurrence}
use Rattle.grammar.specs.declared.occurrence.What.{What}
use Rattle.grammar.specs.Tree.{Tree, occ, occs}
use Rattle.types.specs.Types.{Ty, parts, same}
use Rattle.lang.specs.Outcome.{Out, ok, refused, then, refuse}
use Rattle.lang.specs.Rules.{limit}
use Rattle.lang.specs.Scope.{bound}
use Rattle.lang.specs.Expr.{Expr}
use Rattle.lang.specs.Weight.{weight}
use Rattle.lang.specs.Written.{Written, written}
use Rattle.lang.specs.Elaborate.{Typed, elaborate}
use Rattle.lang.specs.Check.{Checked, header, at_result, weighed, heaviest, check}
use Rattle.lang.specs.Check.{declared as declared_as}
use Rattle.lang.specs.Phrases.{Program, a_program}
use Rattle.lang.proofs.Sound.{Holds}
use Rattle.lang.proofs.Derived.{derived}
use Rattle.judging.specs.Notes.{notes}
use Rattle.judging.specs.Judging.{State, top, mark, popped, entered, declared, judge, begin, finish}
use Rattle.judging.specs.Laws.{program_notes, Agree, JudgingLaw, CheckingLaw, AgreeAlone, AloneLaw}
use Rattle.judging.proofs.States.{after, made}
use Rattle.judging.proofs.Judges.{Judges, join_4}
use Rattle.judging.proofs.Types.{Writing, wrote, writing}
use Rattle.judging.proofs.Phrases.{judges}

-- the state at the end
abbrev ended : Name → Checked → State
ended n c = made (bound n c.parameter ∷ []) (c.result ∷ c.result ∷ []) [] (program_notes c) c.weight

-- a type of the header
header-then : {B C : Type 0} (p : ℕ) (t : Ty) (s : State) (f : Ty → Out B) (g : B → Out C) (h : State → Out C) → (parts t ≤ 8 → h s ≡ then (f t) g) →
    then (cond (leb (parts t) limit) (ok s) (refuse 7 p)) h ≡ then (then (header (some (p, t))) f) g
header-then p t s f g h k = by (leb (parts t) limit) P.refl
  where
    by : (b : Bool) → leb (parts t) limit ≡ b → then (cond b (ok s) (refuse 7 p)) h ≡ then (then (cond b (ok t) (refuse 7 p)) f) g
    by true e = k (leb-true _ _ e)
    by false e = P.refl

then_made : {A B C D : Type 0} (m : Out A) (k : A → B) (f : B → Out C) (g : C → Out D) → then (then (then m (λ a. ok (k a))) f) g ≡ then m (λ a. then (f (k a)) g)
then_made (ok a) k f g = P.refl
then_made (refused r) k f g = P.refl

-- the state before the body
abbrev at_parameter : Name → State → State
at_parameter n s = popped 1 (entered n (top s) (mark s))

abbrev at_body : Name → Ty → Ty → State
at_body n t u = mark (wrote u (at_parameter n (wrote t begin)))

-- the end of the body
module _ (n : Name) (t u : Ty) where
  weighed_end : (e : Expr (t ∷ []) u) →
      cond (leb (0 + weight e) heaviest) (ok (after e (at_body n t u))) (refuse 9 0) ≡ then (weighed t u e) (λ c. ok (ended n c))
  weighed_end e = ap (λ w. cond (leb w heaviest) (ok (made (bound n t ∷ []) (u ∷ u ∷ []) [] ((at_body n t u).notes ++ notes e) w)) (refuse 9 0)) (zero-add (weight e)) ∙ by (leb (weight e) heaviest)
    where
      c : Checked
      c = record { parameter = t; result = u; body = e; weight = weight e }

      by : (b : Bool) → cond b (ok (made (bound n t ∷ []) (u ∷ u ∷ []) [] ((at_body n t u).notes ++ notes e) (weight e))) (refuse 9 0) ≡
          then (cond b (ok (record { parameter = t; result = u; body = e; weight = weight e })) (refuse 9 0)) (λ c. ok (ended n c))
      by true = P.refl
      by false = P.refl

  body_end : {v : Ty} (m : Option (Id Ty v u)) (e : Expr (t ∷ []) v) →
      then (declared m (after e (at_body n t u))) (λ s. cond (leb s.weight heaviest) (ok s) (refuse 9 0)) ≡ then (then (at_result m e) (λ e. weighed t u e)) (λ c. ok (ended n c))
  body_end none e = P.refl
  body_end (some refl) e = weighed_end e

  body-then : {e : Tree} → Judges e → parts t ≤ 8 →
      then (judge (occs e ++ []) (at_body n t u)) finish ≡
      then (then (elaborate e (bound n t ∷ [])) (λ y. then (declared_as u y) (λ e. weighed t u e))) (λ c. ok (ended n c))
  body-then {e} j h = ap (λ m. then m finish) (j.run (at_body n t u) (record { small = (h, tt); inside = tt }) []) ∙ by (elaborate e (bound n t ∷ []))
    where
      by : (m : Out (Typed (t ∷ []))) → then (then m (λ y. ok (after y.1 (at_body n t u)))) finish ≡ then (then m (λ y. then (declared_as u y) (λ e. weighed t u e))) (λ c. ok (ended n c))
      by (ok y) = body_end (same y.0 u) y.1
      by (refused r) = P.refl

-- the whole, for what is written in the header
abbrev checking : Name → Tree → Option Written → Option Written → Out Checked
checking n e o m = then (header o) λ t. then (header m) λ u. then (elaborate e (bound n t ∷ [])) λ y. then (declared_as u y) λ e. weighed t u e

program_then : {x r : ℕ} {a b e : Tree} (n : Name) → Writing x a → Writing r b → Judges e →
    then (judge (occs (Tree.program x n r a b e)) begin) finish ≡ then (check (Tree.program x n r a b e)) (λ c. ok (ended n c))
unfolding check
program_then {x} {r} {a} {b} {e} n i k j =
    let t : Ty = i.type in
    let u : Ty = k.type in
    let body : List Occurrence = occs e ++ [] in
    let others : List Occurrence = occs b ++ (occ What.Result r ++ body) in
    let before : State = at_parameter n (wrote t begin) in
    ap (λ l. then (judge l begin) finish) (join_4 (occs a) (occ (What.Parameter n) x) (occs b) (occ What.Result r) (occs e)) ∙
    ap (λ l. then (judge (occs a ++ (occ (What.Parameter n) x ++ (occs b ++ (occ What.Result r ++ l)))) begin) finish) (sym (append-nil (occs e))) ∙
    ap (λ m. then m finish) (i.run begin (occ (What.Parameter n) x ++ others)) ∙
    then_made (cond (leb (parts t) limit) (ok (wrote t begin)) (refuse 7 x)) (at_parameter n) (λ s. judge others s) finish ∙
    header-then x t (wrote t begin) _ _ (λ s. then (judge others (at_parameter n s)) finish)
    (λ h.
    ap (λ m. then m finish) (k.run before (occ What.Result r ++ body)) ∙
    then_made (cond (leb (parts u) limit) (ok (wrote u before)) (refuse 7 r)) mark (λ s. judge body s) finish ∙
    header-then r u (wrote u before) _ _ (λ s. then (judge body (mark s)) finish) (λ _. body-then n t u j h)) ∙
    ap (λ o. then (checking n e o (some (r, u))) (λ c. ok (ended n c))) (sym i.is) ∙ ap (λ m. then (checking n e (written a) m) (λ c. ok (ended n c))) (sym k.is)

-- an accepted program is not too heavy
holds_then : {A B : Type 0} (Q : B → Type 0) (m : Out A) (f : A → Out B) → ((a : A) → Holds Q (f a)) → Holds Q (then m f)
holds_then Q (ok a) f h = h a
holds_then Q (refused r) f h = tt

weighed_light : (t u : Ty) (e : Expr (t ∷ []) u) → Holds (λ (c : Checked). c.weight ≤ 2000) (weighed t u e)
weighed_light t u e = by (leb (weight e) heaviest) P.refl
  where
    by : (b : Bool) → leb (weight e) heaviest ≡ b → Holds (λ (c : Checked). c.weight ≤ 2000) (cond b (ok (record { parameter = t; result = u; body = e; weight = weight e })) (refuse 9 0))
    by true h = leb-true _ _ h
    by false h = tt

program_light : (x r : ℕ) (n : Name) (a b e : Tree) → Holds (λ (c : Checked). c.weight ≤ 2000) (check (Tree.program x n r a b e))
unfolding check
program_light x r n a b e =
    holds_then _ (header (written a)) _ λ t. holds_then _ (header (written b)) _ λ u. holds_then _ (elaborate e (bound n t ∷ [])) _ λ y.
    holds_then _ (declared_as u y) _ λ e. weighed_light t u e

agree_ended : (n : Name) (m : Out Checked) → Holds (λ (c : Checked). c.weight ≤ 2000) m → AgreeAlone m (then m (λ c. ok (ended n c)))
agree_ended n (ok c) h = record { accepted = record { stack = P.refl; notes = P.refl; weight = P.refl; light = h }; scope = P.refl }
agree_ended n (refused r) h = P.refl

judging_alone : (p : Tree) → Program p → AgreeAlone (check p) (then (judge (occs p) begin) finish)
judging_alone p (a_program {x} {r} {n} {a} {b} {e} h k j) =
    subst (λ m. AgreeAlone (check (Tree.program x n r a b e)) m) (sym (program_then n (writing h) (writing k) (judges j))) (agree_ended n (check (Tree.program x n r a b e)) (program_light x r n a b e))

agree_alone : (m : Out Checked) (o : Out State) → AgreeAlone m o → Agree m o
agree_alone (ok c) (ok s) h = h.accepted
agree_alone (ok c) (refused r) h = absurd h
agree_alone (refused q) (ok s) h = absurd h
agree_alone (refused q) (refused r) h = h

pub judging : JudgingLaw
judging p h = agree_alone (check p) (then (judge (occs p) begin) finish) (judging_alone p h)

pub checked : CheckingLaw
checked ts i j tree h = judging tree (derived ts i j tree h)

pub alone : AloneLaw
alone ts i j tree h = judging_alone tree (derived ts i j tree h)
