-- What holds at each stage. A stage may have been come to in several ways.
use Rattle.std.specs.Prelude.{◌≡◌, ℕ, ◌≤◌, List, length}
use Rattle.refusal.specs.declared.Refusal.{Refusal}
use Rattle.grammar.specs.declared.occurrence.Occurrence.{Occurrence}
use Rattle.grammar.specs.Tree.{Tree, occs}
use Rattle.lang.specs.Outcome.{ok, refused}
use Rattle.lang.specs.Check.{Checked, check}
use Rattle.judging.specs.Judging.{State}
use Rattle.reader.specs.declared.table.Table.{Table}
use Rattle.reader.specs.Reading.{occurrences_of}
use Rattle.typing.specs.declared.checker.Checker.{Checker}
use Rattle.typing.specs.Holding.{held}
use Rattle.program.specs.Loading.{Spells, Reads, Holds}

abbrev pub IsRead : Table → Type 0
IsRead t = ∥ Reads (occurrences_of t) ∥₁

abbrev pub Few : Table → Type 0
Few t = length (occurrences_of t) ≤ 1024

-- well typed and within all limits
abbrev pub IsChecked : Table → Checker → Type 0
IsChecked t k = ∥ ((c : Checked) × Holds (occurrences_of t) (held k) c) ∥₁

-- the table has the program that the text is
pub record Tabled (text : List ℕ) (t : Table) : Type 0 where
  pub read : IsRead t
  pub few : Few t
  pub tree : Tree
  pub spells : Spells text tree
  pub is : occurrences_of t ≡ occs tree

-- whatever program the occurrences are, it is accepted, and this is the state after judging it
pub record Accepts (os : List Occurrence) (s : State) : Type 0 where
  pub each : (text : List ℕ) (tree : Tree) → Spells text tree → os ≡ occs tree → (c : Checked) × (check tree ≡ ok c) × Holds os s c

-- whatever program the occurrences are, it is refused so
pub record Refuses (os : List Occurrence) (r : Refusal) : Type 0 where
  pub each : (text : List ℕ) (tree : Tree) → Spells text tree → os ≡ occs tree → check tree ≡ refused r
