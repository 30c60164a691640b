-- Judging a program occurrence by occurrence is checking it.
use Rattle.std.specs.Prelude.{◌≡◌, ℕ, ◌≤◌, ◌↔◌, List, [], ◌∷◌, ◌++◌}
use Rattle.tokens.specs.declared.kind.Token.{Token}
use Rattle.refusal.specs.declared.Refusal.{Refusal}
use Rattle.grammar.specs.declared.occurrence.Occurrence.{Occurrence}
use Rattle.grammar.specs.Grammar.{programs, Derives}
use Rattle.grammar.specs.Tree.{Tree, occs}
use Rattle.lang.specs.Outcome.{Out, ok, refused, then}
use Rattle.lang.specs.Check.{Checked, check}
use Rattle.lang.specs.Phrases.{Program}
use Rattle.lang.specs.Scope.{kinds}
use Rattle.judging.specs.Notes.{Note, note, type_notes, notes}
use Rattle.judging.specs.Acts.{Resolves}
use Rattle.judging.specs.Occurrences.{program_occs}
use Rattle.judging.specs.Judging.{State, step, judge, begin, finish}

-- the notes of a program: of the parameter's type and the parameter, of the result's type and the result, of the body
abbrev pub program_notes : Checked → List Note
program_notes c = type_notes c.parameter ++ note c.parameter ++ type_notes c.result ++ note c.result ++ notes c.body

-- the state at the end of a program that is accepted: the body's type stands on the declared one
pub record Accepted (c : Checked) (s : State) : Type 0 where
  pub stack : s.stack ≡ c.result ∷ c.result ∷ []
  pub notes : s.notes ≡ program_notes c
  pub weight : s.weight ≡ c.weight
  pub light : c.weight ≤ 2000

-- both refuse, with the same number and place, or both accept
abbrev pub Agree : Out Checked → Out State → Type 0
Agree (ok c) (ok s) = Accepted c s
Agree (ok c) (refused r) = ⊥
Agree (refused q) (ok s) = ⊥
Agree (refused q) (refused r) = q ≡ r

abbrev pub JudgingLaw : Type 0
JudgingLaw = (p : Tree) → Program p → Agree (check p) (then (judge (occs p) begin) finish)

-- accepted, with the parameter alone in scope at the end
pub record AcceptedAlone (c : Checked) (s : State) : Type 0 where
  pub accepted : Accepted c s
  pub scope : kinds s.scope ≡ c.parameter ∷ []

abbrev pub AgreeAlone : Out Checked → Out State → Type 0
AgreeAlone (ok c) (ok s) = AcceptedAlone c s
AgreeAlone (ok c) (refused r) = ⊥
AgreeAlone (refused q) (ok s) = ⊥
AgreeAlone (refused q) (refused r) = q ≡ r

abbrev pub AloneLaw : Type 0
AloneLaw = (ts : List Token) (i j : ℕ) (tree : Tree) → Derives ts programs i j tree → AgreeAlone (check tree) (then (judge (occs tree) begin) finish)

-- and so for every tree that the grammar derives for programs
abbrev pub CheckingLaw : Type 0
CheckingLaw = (ts : List Token) (i j : ℕ) (tree : Tree) → Derives ts programs i j tree → Agree (check tree) (then (judge (occs tree) begin) finish)

-- the first occurrence that refuses: those before it are passed
pub record First (s : State) (os : List Occurrence) (r : Refusal) : Type 0 where
  pub before : List Occurrence
  pub at : Occurrence
  pub after : List Occurrence
  pub reached : State
  pub split : os ≡ before ++ (at ∷ after)
  pub passed : judge before s ≡ ok reached
  pub refuses : step at.what at.place reached ≡ refused r

abbrev pub FirstLaw : Type 0
FirstLaw = (s : State) (os : List Occurrence) (r : Refusal) → (judge os s ≡ refused r) ↔ First s os r

-- the occurrences of a program that is accepted, with its notes, are the typed occurrences of what it is elaborated to
abbrev pub ResolvingLaw : Type 0
ResolvingLaw = (p : Tree) → Program p → (c : Checked) → check p ≡ ok c → Resolves (occs p) (program_notes c) (program_occs c)
