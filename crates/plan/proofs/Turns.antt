-- Occurrences with their notes, one after the other.
use Rattle.std.proofs.Common.{◌≡◌, ℕ, ◌≤◌, ◌⊎◌, List, [], ◌∷◌, map, length, inl, inr, sym, ap, ◌∙◌, arith}
use Rattle.std.proofs.lemmas.Grind.{common_steps}
use mathlib.Core.Path as P
use Rattle.grammar.specs.declared.occurrence.Occurrence.{Occurrence}
use Rattle.types.specs.Types.{Ty}
use Rattle.judging.specs.Notes.{Note}
use Rattle.judging.specs.Acts.{TypedOccurrence, resolved, Resolves, none_left, one_more}
use Rattle.typing.specs.declared.parts.Note.{Note as NoteEntry}
use Rattle.typing.specs.Codes.{type_at, note_of}
use Rattle.plan.specs.Filling.{Filling, one, run, typed}
use Rattle.plan.proofs.Growing.{run_frees}

-- with the types of a table
abbrev pub noted : List Ty → List Occurrence → List NoteEntry → List TypedOccurrence
noted ts os ns = typed os (map (note_of ts) ns)

module _ (ts : List Ty) (os : List Occurrence) (ns : List NoteEntry) (s all : Filling) (h : run (noted ts os ns) s ≡ all) where
  -- one more
  module _ (o : Occurrence) (qs : List Occurrence) (n : NoteEntry) (ms : List NoteEntry) (t : Ty) (eo : os ≡ o ∷ qs) (en : ns ≡ n ∷ ms) (et : t ≡ type_at ts n.code) where
    pub turn : {u : Filling} → u ≡ one (resolved o (record { type = t; index = n.index })) s → run (noted ts qs ms) u ≡ all
    turn e = grind (arith, common_steps)

    pub turn_frees : (m : ℕ) → length all.frees ≤ m → length (one (resolved o (record { type = t; index = n.index })) s).frees ≤ m
    turn_frees m le = grind (arith, common_steps, run_frees, turn)

  -- none is left
  pub turned : (length os ≡ 0) ⊎ (length ns ≡ 0) → s ≡ all
  turned k = sym (ap (λ l. run l s) (none os ns k)) ∙ h
    where
      none : (os : List Occurrence) (ns : List NoteEntry) → (length os ≡ 0) ⊎ (length ns ≡ 0) → noted ts os ns ≡ []
      none [] ns k = P.refl
      none (o ∷ os) [] k = P.refl
      none (o ∷ os) (n ∷ ns) (inl k) = absurd (omega arith)
      none (o ∷ os) (n ∷ ns) (inr k) = absurd (omega arith)

-- as the program has them
pub typed-is : {os : List Occurrence} {ns : List Note} {xs : List TypedOccurrence} → Resolves os ns xs → typed os ns ≡ xs
typed-is none_left = P.refl
typed-is (one_more {t = t} {os = os} {ns = ns} e h) = ap (λ x. x ∷ typed os ns) e ∙ ap (λ l. t ∷ l) (typed-is h)
