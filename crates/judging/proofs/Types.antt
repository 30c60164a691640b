-- Judging the occurrences of a written type pushes it.
use Rattle.std.proofs.Common.{◌≡◌, ℕ, List, ◌∷◌, ◌++◌, refl, ap, ◌∙◌}
use mathlib.Core.Option.{some}
use Rattle.std.proofs.lemmas.List.{append_assoc}
use Rattle.grammar.specs.declared.occurrence.Occurrence.{Occurrence}
use Rattle.grammar.specs.declared.occurrence.What.{What}
use Rattle.grammar.specs.Tree.{Tree, occ, occs}
use Rattle.types.specs.Types.{Ty, int, bool, pair, list}
use Rattle.lang.specs.Written.{written}
use Rattle.lang.specs.Phrases.{TypePhrase, of_int, of_bool, of_both, of_many}
use Rattle.judging.specs.Notes.{type_notes}
use Rattle.judging.specs.Judging.{State, judge}
use Rattle.judging.proofs.States.{made_same}
use Rattle.judging.proofs.Judges.{join_3}

abbrev pub wrote : Ty → State → State
wrote t s = record { scope = s.scope; stack = t ∷ s.stack; forks = s.forks; notes = s.notes ++ type_notes t; weight = s.weight }

pub record Writing (p : ℕ) (a : Tree) : Type 0 where
  pub type : Ty
  pub is : written a ≡ some (p, type)
  pub run : (s : State) (rest : List Occurrence) → judge (occs a ++ rest) s ≡ judge rest (wrote type s)

writing_both : {q r : ℕ} {a b : Tree} (p : ℕ) → Writing q a → Writing r b → Writing p (Tree.both p a b)
unfolding written
writing_both {a = a} {b = b} p x y = record {
  type = pair x.type y.type;
  is = rw (x.is, y.is);
  run = λ s rest.
      ap (λ l. judge l s) (join_3 (occs a) (occs b) (occ What.TypePair p) rest) ∙ x.run s (occs b ++ (occ What.TypePair p ++ rest)) ∙
      y.run (wrote x.type s) (occ What.TypePair p ++ rest) ∙ ap (judge rest) (made_same s.scope (pair x.type y.type ∷ s.stack) refl (simp append_assoc) refl);
}

writing_many : {q : ℕ} {a : Tree} (p : ℕ) → Writing q a → Writing p (Tree.many p a)
unfolding written
writing_many {a = a} p x = record {
  type = list x.type;
  is = rw x.is;
  run = λ s rest.
      ap (λ l. judge l s) (append_assoc (occs a) (occ What.TypeList p) rest) ∙ x.run s (occ What.TypeList p ++ rest) ∙
      ap (judge rest) (made_same s.scope (list x.type ∷ s.stack) refl (simp append_assoc) refl);
}

pub writing : {p : ℕ} {a : Tree} → TypePhrase p a → Writing p a
unfolding written
writing of_int = record { type = int; is = refl; run = λ s rest. refl }
writing of_bool = record { type = bool; is = refl; run = λ s rest. refl }
writing (of_both {p} h k) = writing_both p (writing h) (writing k)
writing (of_many {p} h) = writing_many p (writing h)
