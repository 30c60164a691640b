-- Occurrences and notes one by one: lists one after the other, and each place of a list.
use Rattle.std.proofs.Common.{◌≡◌, ℕ, zero, suc, ◌<◌, List, [], ◌∷◌, ◌++◌, length, get_or, sym, ap, arith}
use mathlib.Core.Path as P
use Rattle.std.proofs.lemmas.List.{append-nil}
use Rattle.grammar.specs.declared.occurrence.Occurrence.{Occurrence}
use Rattle.judging.specs.Notes.{Note}
use Rattle.judging.specs.Acts.{TypedOccurrence, resolved, Resolves, none_left, one_more}

pub join : {os rs : List Occurrence} {ns ms : List Note} {ts us : List TypedOccurrence} →
    Resolves os ns ts → Resolves rs ms us → Resolves (os ++ rs) (ns ++ ms) (ts ++ us)
join none_left k = k
join (one_more e h) k = one_more e (join h k)

-- one occurrence with its note
pub single : {o : Occurrence} {n : Note} → Resolves (o ∷ []) (n ∷ []) (resolved o n ∷ [])
single = one_more P.refl none_left

pub alone : {os : List Occurrence} {ns : List Note} {ts : List TypedOccurrence} → Resolves os ns ts → Resolves os (ns ++ []) (ts ++ [])
alone {ns = ns} {ts = ts} h = rw (append-nil ns, append-nil ts) h

-- there are as many of each
pub lengths : {os : List Occurrence} {ns : List Note} {ts : List TypedOccurrence} → Resolves os ns ts →
    (length os ≡ length ts) × (length ns ≡ length ts)
lengths none_left = (P.refl, P.refl)
lengths (one_more e h) = let (l, m) = lengths h in (ap suc l, ap suc m)

pub resolved-at : {os : List Occurrence} {ns : List Note} {ts : List TypedOccurrence} → Resolves os ns ts →
    (i : ℕ) (o : Occurrence) (n : Note) (t : TypedOccurrence) → i < length ts → get_or ts i t ≡ resolved (get_or os i o) (get_or ns i n)
resolved-at none_left i o n t l = absurd (omega arith)
resolved-at (one_more e h) zero o n t l = sym e
resolved-at (one_more e h) (suc i) o n t l = resolved-at h i o n t (omega arith)
