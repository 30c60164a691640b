-- From stage to stage.
use Rattle.std.proofs.Common.{◌≡◌, ℕ, ◌≤◌, List, length, IfOk, Ok, Err, Result, sym, refl, ap, ◌∙◌, subst, inr, MatchResult}
use mathlib.Core.Logic.{∥∥₁_map}
use Rattle.refusal.specs.declared.Refusal.{Refusal}
use Rattle.grammar.specs.declared.occurrence.Occurrence.{Occurrence}
use Rattle.grammar.specs.Tree.{Tree, occs}
use Rattle.lang.specs.Outcome.{Out, ok, refused, then}
use Rattle.lang.specs.Check.{Checked, check}
use Rattle.judging.specs.Judging.{State, judge, begin, finish}
use Rattle.judging.specs.Acts.{Resolves}
use Rattle.judging.specs.Occurrences.{program_occs}
use Rattle.judging.specs.Laws.{Accepted, AcceptedAlone, AgreeAlone, program_notes}
use Rattle.lang.specs.Phrases.{Program as Phrase}
use Rattle.lang.proofs.Derived.{derived}
use Rattle.judging.proofs.Whole.{alone}
use Rattle.judging.proofs.Resolving.{resolving}
use Rattle.reader.specs.Reading.{occurrences_of, Rejects}
use Rattle.reader.specs.declared.fault.ReadFault.{ReadFault}
use Rattle.typing.specs.declared.fault.CheckFault.{CheckFault}
use Rattle.typing.specs.declared.checker.Checker.{Checker}
use Rattle.typing.specs.Faults.{of_check}
use Rattle.typing.specs.Holding.{held, Judged}
use Rattle.reader.specs.Reading.{Accepts as AcceptedText}
use Rattle.reader.specs.declared.table.Table.{Table}
use Rattle.program.specs.declared.memory.Memory.{Memory}
use Rattle.program.specs.declared.memory.Rejected.{Rejected}
use Rattle.program.specs.declared.read.ReadProgram.{ReadProgram}
use Rattle.program.specs.declared.checked.CheckedProgram.{CheckedProgram}
use Rattle.program.specs.Loading.{Spells, Comes, Reads, Holds}
use Rattle.program.specs.Stages.{IsChecked, Tabled, Accepts, Refuses}
use Rattle.program.specs.Answers.{read_in, CheckedAs, Loaded, LoadedAs}

pub spelling : {text : List ℕ} {os : List Occurrence} → AcceptedText text os → (tree : Tree) × Spells text tree × (os ≡ occs tree)
spelling a = (a.reads.program.tree, record { short = a.short; tokens = a.tokens; cuts = a.cuts; program = a.reads.program; is = refl }, a.reads.table)

reading : {text : List ℕ} {os : List Occurrence} → AcceptedText text os → Reads os
reading {text} a = let s = spelling a in record { text = text; tree = s.0; spells = s.1; is = s.2 }

-- what judging comes to
judged : {text : List ℕ} {tree : Tree} (os : List Occurrence) → Spells text tree → os ≡ occs tree → AgreeAlone (check tree) (then (judge os begin) finish)
judged {tree = tree} os s e =
    subst (λ t. os ≡ occs t → AgreeAlone (check t) (then (judge os begin) finish)) (sym s.is) (λ e. subst (λ l. AgreeAlone (check s.program.tree) (then (judge l begin) finish)) (sym e) (alone s.tokens 0 s.program.upto s.program.tree s.program.derives)) e

-- and with their notes the occurrences are typed
typing : {text : List ℕ} {tree : Tree} {os : List Occurrence} {c : Checked} {st : State} → Spells text tree → os ≡ occs tree → check tree ≡ ok c → Accepted c st →
    Resolves os st.notes (program_occs c)
typing {tree = tree} {os = os} {c = c} {st = st} s e h a =
    let p : Phrase tree = subst Phrase (sym s.is) (derived s.tokens 0 s.program.upto s.program.tree s.program.derives) in
    let r : Resolves (occs tree) (program_notes c) (program_occs c) = resolving tree p c h in
    subst (λ l. Resolves l st.notes (program_occs c)) (sym e) (subst (λ ns. Resolves (occs tree) ns (program_occs c)) (sym a.notes) r)

agree_ok : (m : Out Checked) (s : State) → AgreeAlone m (ok s) → (c : Checked) × (m ≡ ok c) × AcceptedAlone c s
agree_ok (ok c) s h = (c, refl, h)
agree_ok (refused r) s h = absurd h

agree_refused : (m : Out Checked) (r : Refusal) → AgreeAlone m (refused r) → m ≡ refused r
agree_refused (ok c) r h = absurd h
agree_refused (refused q) r h = ap refused h

-- a text that was read
pub tabled : (text : List ℕ) (t : Table) → AcceptedText text (occurrences_of t) → length (occurrences_of t) ≤ 1024 → Tabled text t
tabled text t a few = let s = spelling a in record { read = ∣ reading a ∣₁; few = few; tree = s.0; spells = s.1; is = s.2 }

module _ {text : List ℕ} {tree : Tree} {os : List Occurrence} (s : Spells text tree) (e : os ≡ occs tree) where
  accepted : (st : State) → then (judge os begin) finish ≡ ok st → (c : Checked) × (check tree ≡ ok c) × Holds os st c
  accepted st h =
      let a = agree_ok (check tree) st (subst (AgreeAlone (check tree)) h (judged os s e)) in
      (a.0, a.1, record { reads = record { text = text; tree = tree; spells = s; is = e }; checks = a.1; accepted = a.2.accepted; scope = a.2.scope; typed = typing s e a.1 a.2.accepted })

-- occurrences that were judged
pub accepts : {os : List Occurrence} (st : State) → then (judge os begin) finish ≡ ok st → Accepts os st
accepts st h = record { each = λ text tree s e. accepted s e st h }

pub refuses : {os : List Occurrence} (r : Refusal) → then (judge os begin) finish ≡ refused r → Refuses os r
refuses {os} r h = record { each = λ text tree s e. agree_refused (check tree) r (subst (AgreeAlone (check tree)) h (judged os s e)) }

-- what was read and judged is a program
pub sound : (os : List Occurrence) (st : State) → then (judge os begin) finish ≡ ok st → ∥ Reads os ∥₁ → ∥ ((c : Checked) × Holds os st c) ∥₁
sound os st h r = ∥∥₁_map r λ r. let a = accepted r.spells r.is st h in (a.0, a.2)

-- read, then checked
pub loaded : (text : List ℕ) (p : ReadProgram) (r : Result CheckedProgram Rejected) → Tabled text p.memory.table → CheckedAs (read_in p) r → LoadedAs text r
loaded text p (Ok q) s h =
    let a = h.1.each text s.tree s.spells s.is in
    record { program = a.0; tree = s.tree; spells = s.spells; checks = a.1; done = h.0 ∙ s.is; is = subst (λ os. Holds os (held q.memory.checker) a.0) (sym h.0) a.2 }
loaded text p (Err e) s h = inr (s.tree, s.spells, h.each text s.tree s.spells s.is)

-- what the reader's and the checker's calls answer
pub filled : (text : List ℕ) (t : Table) (r : Result (Unit {0}) ReadFault) → MatchResult r (λ _. AcceptedText text (occurrences_of t)) (λ f. Rejects text f) →
    IfOk r (λ _. length (occurrences_of t) ≤ 1024) → MatchResult r (λ _. Tabled text t) (λ f. Rejects text f)
filled text t (Ok _) a few = tabled text t a few
filled text t (Err f) a few = a

pub judges : (t : Table) (k : Checker) (os : List Occurrence) (r : Result (Unit {0}) CheckFault) → os ≡ occurrences_of t → ∥ Reads (occurrences_of t) ∥₁ →
    Judged (then (judge os begin) finish) k r →
    MatchResult r (λ _. IsChecked t k × Accepts (occurrences_of t) (held k)) (λ f. Refuses (occurrences_of t) (of_check f))
judges t k os (Ok _) e r h =
    let j = ap (λ l. then (judge l begin) finish) (sym e) ∙ h in (sound (occurrences_of t) (held k) j r, accepts (held k) j)
judges t k os (Err f) e r h = refuses (of_check f) (ap (λ l. then (judge l begin) finish) (sym e) ∙ h)

-- in another's place
pub swapped : {text : List ℕ} (p : CheckedProgram) {m : Memory} {t : Table} → p.memory ≡ m → m.table ≡ t → Tabled text t → Accepts (occurrences_of t) (held m.checker) → Loaded text p
swapped {text} p {m} {t} e f s h =
    let a = h.each text s.tree s.spells s.is in
    record { program = a.0; tree = s.tree; spells = s.spells; checks = a.1; done = ap (λ m. occurrences_of m.table) e ∙ ap occurrences_of f ∙ s.is; is = subst (λ m. Holds (occurrences_of m.table) (held m.checker) a.0) (sym e) (subst (λ t. Holds (occurrences_of t) (held m.checker) a.0) (sym f) a.2) }

pub refused_as : {text : List ℕ} {t : Table} (f : CheckFault) → Tabled text t → Refuses (occurrences_of t) (of_check f) → Comes text (refused (of_check f))
refused_as {text} f s h = inr (s.tree, s.spells, h.each text s.tree s.spells s.is)
