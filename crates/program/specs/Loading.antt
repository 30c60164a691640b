-- What a text comes to: a program, or the first refusal.
use Rattle.std.specs.Prelude.{◌≡◌, ℕ, ◌≤◌, ◌⊎◌, List, length, [], ◌∷◌}
use Rattle.tokens.specs.declared.kind.Token.{Token}
use Rattle.tokens.specs.Cutting.{Cuts}
use Rattle.grammar.specs.declared.occurrence.Occurrence.{Occurrence}
use Rattle.grammar.specs.Tree.{Tree, occs}
use Rattle.grammar.specs.Grammar.{Program}
use Rattle.lang.specs.Outcome.{Out, ok, refused}
use Rattle.lang.specs.Check.{Checked, check}
use Rattle.lang.specs.Scope.{kinds}
use Rattle.judging.specs.Judging.{State}
use Rattle.judging.specs.Acts.{Resolves}
use Rattle.judging.specs.Occurrences.{program_occs}
use Rattle.judging.specs.Laws.{Accepted}
use Rattle.reader.specs.declared.fault.ReadFault.{ReadFault}
use Rattle.reader.specs.Reading.{Rejects}
use Rattle.reader.specs.Faults.{of_read}

-- the text is that of a program with this tree
pub record Spells (text : List ℕ) (tree : Tree) : Type 0 where
  pub short : length text ≤ 4096
  pub tokens : List Token
  pub cuts : Cuts text tokens
  pub program : Program tokens
  pub is : tree ≡ program.tree

-- the text is that of a program which the type rules and limits accept as c, or is refused: it is no program's, or they refuse it
abbrev pub Comes : List ℕ → Out Checked → Type 0
Comes text (ok c) = (tree : Tree) × Spells text tree × (check tree ≡ ok c)
Comes text (refused r) = ((f : ReadFault) × Rejects text f × (r ≡ of_read f)) ⊎ ((tree : Tree) × Spells text tree × (check tree ≡ refused r))

-- no text comes to two things
abbrev pub OneLaw : Type 0
OneLaw = (text : List ℕ) (a b : Out Checked) → Comes text a → Comes text b → a ≡ b

-- occurrences that are those of a program
pub record Reads (os : List Occurrence) : Type 0 where
  pub text : List ℕ
  pub tree : Tree
  pub spells : Spells text tree
  pub is : os ≡ occs tree

-- occurrences and the state after judging them are those of the program c: with their notes they are its typed occurrences
pub record Holds (os : List Occurrence) (s : State) (c : Checked) : Type 0 where
  pub reads : Reads os
  pub checks : check reads.tree ≡ ok c
  pub accepted : Accepted c s
  pub scope : kinds s.scope ≡ c.parameter ∷ []
  pub typed : Resolves os s.notes (program_occs c)
