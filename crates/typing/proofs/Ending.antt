-- Judging all occurrences, and the end of a program.
use Rattle.std.proofs.Common.{◌≡◌, ℕ, ◌+◌, ◌<◌, ◌≤◌, List, length, get_or, drop, refl, sym, ap, ◌∙◌}
use Rattle.std.proofs.lemmas.List.{at_drop_more}
use Rattle.std.proofs.lemmas.Bool.{le-leb, lt-leb}
use Rattle.refusal.specs.declared.Refusal.{Refusal}
use Rattle.types.proofs.Same.{same_self}
use Rattle.grammar.specs.declared.occurrence.Occurrence.{Occurrence}
use Rattle.lang.specs.Outcome.{ok, refused, then, refuse}
use Rattle.judging.specs.Judging.{State, top, popped, step, judge, finish, heaviest}

pub heavy_end : (s : State) → top s ≡ top (popped 1 s) → heaviest < s.weight → finish s ≡ refuse 9 0
heavy_end s e lt = rw (e, same_self (top (popped 1 s)), lt-leb s.weight heaviest lt) refl

pub good_end : (s : State) → top s ≡ top (popped 1 s) → s.weight ≤ heaviest → finish s ≡ ok s
good_end s e le = rw (e, same_self (top (popped 1 s)), le-leb s.weight heaviest le) refl

-- one occurrence of those that are left
module _ (os : List Occurrence) (i : ℕ) (s : State) (d : Occurrence) (lt : i < length os) where
  abbrev o : Occurrence
  o = get_or os i d

  pub judged_more : (s' : State) → step o.what o.place s ≡ ok s' → judge (drop (i + 1) os) s' ≡ judge (drop i os) s
  judged_more s' e =
      sym (ap (λ x. then x λ s. judge (drop (i + 1) os) s) e) ∙ sym (at_drop_more (λ l. judge l s) os i d lt)

  pub refused_here : (r : Refusal) → step o.what o.place s ≡ refused r → judge (drop i os) s ≡ refused r
  refused_here r e =
      at_drop_more (λ l. judge l s) os i d lt ∙ ap (λ x. then x λ s. judge (drop (i + 1) os) s) e
