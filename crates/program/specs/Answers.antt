-- What the calls on programs answer.
use Rattle.std.specs.Prelude.{◌≡◌, ℕ, List, [], vec_items, Result, MatchResult}
use Rattle.types.specs.declared.table.TypeTable.{TypeTable}
use Rattle.grammar.specs.declared.occurrence.Occurrence.{Occurrence}
use Rattle.grammar.specs.Tree.{Tree, occs}
use Rattle.lang.specs.Outcome.{ok, refused}
use Rattle.lang.specs.Check.{Checked, check}
use Rattle.reader.specs.Reading.{occurrences_of}
use Rattle.typing.specs.declared.parts.Note.{Note}
use Rattle.judging.specs.Judging.{begin}
use Rattle.typing.specs.Holding.{held}
use Rattle.program.specs.declared.memory.Memory.{Memory}
use Rattle.program.specs.declared.memory.Rejected.{Rejected}
use Rattle.program.specs.declared.read.ReadProgram.{ReadProgram}
use Rattle.program.specs.declared.checked.CheckedProgram.{CheckedProgram}
use Rattle.program.specs.declared.fault.LoadFault.{LoadFault}
use Rattle.program.specs.declared.fault.LoadFault.TheVariants.{Read, Check}
use Rattle.reader.specs.Reading.{Rejects}
use Rattle.program.specs.Faults.{of_load}
use Rattle.program.specs.Loading.{Spells, Comes, Holds}
use Rattle.program.specs.Stages.{Tabled, Accepts, Refuses}

abbrev pub read_in : ReadProgram → List Occurrence
read_in p = occurrences_of p.memory.table

abbrev pub done_in : CheckedProgram → List Occurrence
done_in p = occurrences_of p.memory.table

abbrev pub types_of : CheckedProgram → TypeTable
types_of p = p.memory.checker.types

abbrev pub noted : CheckedProgram → List Note
noted p = vec_items p.memory.checker.notes

-- it is the program c
abbrev pub Is : CheckedProgram → Checked → Type 0
Is p c = Holds (done_in p) (held p.memory.checker) c

-- nothing was read into it, and nothing judged
abbrev pub IsFresh : Memory → Type 0
IsFresh m = (occurrences_of m.table ≡ []) × (held m.checker ≡ begin)

-- the memory that the program took, as the program left it
abbrev pub IsMemoryOf : CheckedProgram → Memory → Type 0
IsMemoryOf p m = (m.table ≡ p.memory.table) × (m.checker ≡ p.memory.checker)

-- the text is read, or the reader refuses it
abbrev pub Unread : List ℕ → LoadFault → Type 0
Unread text (Read f) = Rejects text f
Unread text (Check f) = ⊥

abbrev pub ReadAs : List ℕ → Result ReadProgram Rejected → Type 0
ReadAs text r = MatchResult r (λ p. Tabled text p.memory.table) (λ e. Unread text e.fault)

-- the same occurrences are accepted, or refused
abbrev pub CheckedAs : List Occurrence → Result CheckedProgram Rejected → Type 0
CheckedAs os r = MatchResult r (λ p. (done_in p ≡ os) × Accepts os (held p.memory.checker)) (λ e. Refuses os (of_load e.fault))

-- the text comes to the program
pub record Loaded (text : List ℕ) (p : CheckedProgram) : Type 0 where
  pub program : Checked
  pub tree : Tree
  pub spells : Spells text tree
  pub checks : check tree ≡ ok program
  pub done : done_in p ≡ occs tree
  pub is : Is p program

-- what the text comes to
abbrev pub LoadedAs : List ℕ → Result CheckedProgram Rejected → Type 0
LoadedAs text r = MatchResult r (λ p. Loaded text p) (λ e. Comes text (refused (of_load e.fault)))

-- the program is now the one that the text comes to, or it is refused so and the program is as it was
abbrev pub Replaced : List ℕ → CheckedProgram → CheckedProgram → Result (Unit {0}) LoadFault → Type 0
Replaced text p q r = MatchResult r (λ _. Loaded text q) (λ f. Comes text (refused (of_load f)) × (q ≡ p))
