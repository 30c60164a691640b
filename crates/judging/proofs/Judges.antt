-- Judging a tree's occurrences is elaborating it: leaves and nodes that are no primitives.
use Rattle.std.proofs.Common.{◌≡◌, ℕ, ◌≤◌, Bool, true, false, List, [], ◌∷◌, ◌++◌, refl, ap, ◌∙◌}
use mathlib.Core.Option.{Option, none, some}
use Rattle.std.proofs.lemmas.List.{append_assoc}
use Rattle.tokens.specs.declared.kind.Name.{Name}
use Rattle.grammar.specs.declared.occurrence.Occurrence.{Occurrence}
use Rattle.grammar.specs.declared.occurrence.What.{What}
use Rattle.grammar.specs.Tree.{Tree, occ, occs}
use Rattle.types.specs.Types.{Ty, parts}
use Rattle.lang.specs.Outcome.{Out, then}
use Rattle.lang.specs.Scope.{Binding, kinds, same_name, Found, lookup, choose}
use Rattle.lang.specs.Elaborate.{Typed, found, elaborate}
use Rattle.lang.proofs.Sound.{Holds}
use Rattle.judging.specs.Notes.{index_of}
use Rattle.judging.specs.Judging.{State, popped, entered, mark, nearer, find, variable, judge}
use Rattle.judging.proofs.Outcomes.{then-holding, Slim, slim}
use Rattle.judging.proofs.States.{after, Fine, fine_marks, fine_entered}
use Rattle.judging.proofs.Nodes.{con_state, var_state, group_state, let_state}

pub record Judges (e : Tree) : Type 0 where
  pub run : (s : State) → Fine s.scope s.forks → (rest : List Occurrence) → judge (occs e ++ rest) s ≡ then (elaborate e s.scope) (λ y. judge rest (after y.1 s))

-- a part of a tree, and what follows it; Q holds of what is answered at last
pub on : {e : Tree} {B : Type 0} → Judges e → (s : State) → Fine s.scope s.forks → (rest : List Occurrence) (Q : B → Type 0) (f : Typed (kinds s.scope) → Out B) (g : B → Out State) →
    Holds Q (then (elaborate e s.scope) f) →
    ((x : Typed (kinds s.scope)) → parts x.0 ≤ 8 → Holds Q (f x) → judge rest (after x.1 s) ≡ then (f x) g) →
    judge (occs e ++ rest) s ≡ then (then (elaborate e s.scope) f) g
on {e} j s h rest Q f g q k =
    j.run s h rest ∙ then-holding (Slim {Γ = kinds s.scope}) Q (elaborate e s.scope) f g (λ y. judge rest (after y.1 s)) (slim e s.scope h.small) q k

-- ---- occurrences in a row
pub join_3 : {A : Type 0} (a b c r : List A) → a ++ b ++ c ++ r ≡ a ++ (b ++ (c ++ r))
join_3 a b c r = simp append_assoc

pub join_4 : {A : Type 0} (a b c d r : List A) → a ++ b ++ c ++ d ++ r ≡ a ++ (b ++ (c ++ (d ++ r)))
join_4 a b c d r = simp append_assoc

pub join_6 : {A : Type 0} (a b c d e f r : List A) → a ++ b ++ c ++ d ++ e ++ f ++ r ≡ a ++ (b ++ (c ++ (d ++ (e ++ (f ++ r)))))
join_6 a b c d e f r = simp append_assoc

-- ---- leaves
pub judges_number : (p v : ℕ) → Judges (Tree.number p v)
unfolding elaborate
judges_number p v = record { run = λ s h rest. ap (judge rest) (con_state s p _) }

pub judges_truth : (p : ℕ) (b : Bool) → Judges (Tree.truth p b)
unfolding elaborate
judges_truth p true = record { run = λ s h rest. ap (judge rest) (con_state s p _) }
judges_truth p false = record { run = λ s h rest. ap (judge rest) (con_state s p _) }

-- a name is found where elaboration finds it
abbrev placed : (s : List Binding) → Option (Found s) → Option (ℕ × Ty)
placed s none = none
placed s (some x) = some (index_of x.1, x.0)

nearer_placed : (b : Binding) (s : List Binding) (c : Bool) (x : Option (Found s)) → nearer c (0, b.type) (placed s x) ≡ placed (b ∷ s) (choose b s c x)
nearer_placed b s true x = refl
nearer_placed b s false none = refl
nearer_placed b s false (some x) = refl

find_placed : (s : List Binding) (n : Name) → find s n ≡ placed s (lookup s n)
find_placed [] n = refl
find_placed (b ∷ s) n = ap (nearer (same_name n b.name) (0, b.type)) (find_placed s n) ∙ nearer_placed b s (same_name n b.name) (lookup s n)

found-then : (s : State) (p : ℕ) (x : Option (Found s.scope)) (rest : List Occurrence) →
    then (variable p (placed s.scope x) s) (λ s. judge rest s) ≡ then (found s.scope p x) (λ y. judge rest (after y.1 s))
found-then s p none rest = refl
found-then s p (some x) rest = ap (judge rest) (var_state s p x.1)

pub judges_variable : (p : ℕ) (n : Name) → Judges (Tree.variable p n)
unfolding elaborate
judges_variable p n = record { run = λ s h rest. ap (λ x. then (variable p x s) (λ s. judge rest s)) (find_placed s.scope n) ∙ found-then s p (lookup s.scope n) rest }

-- ---- nodes
pub judges_group : {a : Tree} (p : ℕ) → Judges a → Judges (Tree.group p a)
unfolding elaborate
judges_group {a} p j = record {
  run = λ s h rest.
      ap (λ l. judge l s) (append_assoc (occs a) (occ What.Group p) rest) ∙
      on j s h (occ What.Group p ++ rest) Slim _ _ (slim (Tree.group p a) s.scope h.small) λ x l q.
      ap (judge rest) (group_state s p x.1);
}

pub judges_let : {e b : Tree} (p : ℕ) (n : Name) → Judges e → Judges b → Judges (Tree.bind p n e b)
unfolding elaborate
judges_let {e} {b} p n i j = record {
  run = λ s h rest.
      ap (λ l. judge l s) (join_4 (occs e) (occ (What.Bind n) p) (occs b) (occ What.LetEnd p) rest) ∙
      on i s h (occ (What.Bind n) p ++ (occs b ++ (occ What.LetEnd p ++ rest))) Slim _ _ (slim (Tree.bind p n e b) s.scope h.small) λ x l q.
      on j (popped 1 (entered n x.0 (mark (after x.1 s)))) (fine_entered (fine_marks h _) n x.0 l) (occ What.LetEnd p ++ rest) Slim _ _ q λ y m q.
      ap (judge rest) (let_state s h n p x.1 y.1);
}
