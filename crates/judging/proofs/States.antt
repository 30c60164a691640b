-- The state after an expression, and after operands.
use Rattle.std.proofs.Common.{◌≡◌, ℕ, suc, ◌+◌, ◌≤◌, Bool, false, List, ◌∷◌, ◌++◌, reverse, length, replicate, ap, ◌∙◌, arith}
use Rattle.std.proofs.lemmas.List.{length-replicate}
use Rattle.tokens.specs.declared.kind.Name.{Name}
use Rattle.types.specs.Types.{Ty, parts}
use Rattle.lang.specs.Expr.{Expr, Args, free, frees}
use Rattle.lang.specs.Weight.{weight, weights}
use Rattle.lang.specs.Scope.{Binding, bound}
use Rattle.lang.specs.Laws.{Small}
use Rattle.judging.specs.Notes.{Note, notes, notes_of}
use Rattle.judging.specs.Judging.{Fork, State}
use Rattle.judging.proofs.Marking.{flags}
use Rattle.judging.proofs.Forks.{marks, Inside, inside_marks, inside_more}

-- the type is on the stack, the free variables are marked
abbrev pub after : {Γ : List Ty} {t : Ty} → Expr Γ t → State → State
after {Γ} {t} x s =
    record { scope = s.scope; stack = t ∷ s.stack; forks = marks (flags Γ (free x)) s.forks; notes = s.notes ++ notes x; weight = s.weight + weight x }

-- operands that are off the stack again
abbrev pub spent : {Γ ts : List Ty} → Args Γ ts → State → State
spent {Γ} es s =
    record { scope = s.scope; stack = s.stack; forks = marks (flags Γ (frees es)) s.forks; notes = s.notes ++ notes_of es; weight = s.weight + weights es }

abbrev pub stacked : List Ty → State → State
stacked ts s = record { scope = s.scope; stack = reverse ts ++ s.stack; forks = s.forks; notes = s.notes; weight = s.weight }

-- states that are equal part by part
abbrev pub made : List Binding → List Ty → List Fork → List Note → ℕ → State
made s k fs ns w = record { scope = s; stack = k; forks = fs; notes = ns; weight = w }

pub made_same : (s : List Binding) (k : List Ty) {fs gs : List Fork} {ns ms : List Note} {v w : ℕ} → fs ≡ gs → ns ≡ ms → v ≡ w → made s k fs ns v ≡ made s k gs ms w
made_same s k {gs = gs} {ns = ns} {ms = ms} {v = v} p q r = ap (λ fs. made s k fs ns v) p ∙ ap (λ ns. made s k gs ns v) q ∙ ap (made s k gs ms) r

-- types in scope have at most 8 parts, and forks no variables that are not in scope
pub record Fine (c : List Binding) (fs : List Fork) : Type 0 where
  pub small : Small c
  pub inside : Inside (length c) fs

pub fine_marks : {c : List Binding} {fs : List Fork} → Fine c fs → (us : List Bool) → Fine c (marks us fs)
fine_marks {c} {fs} f us = record { small = f.small; inside = inside_marks (length c) us fs f.inside }

pub fine_fork : {c : List Binding} {fs : List Fork} → Fine c fs → Fine c (record { filtered = false; used = replicate (length c) false } ∷ fs)
fine_fork {c} f = record { small = f.small; inside = (omega (arith, length-replicate (length c) false), f.inside) }

pub fine_filter : {c : List Binding} {a b : Bool} {us : List Bool} {fs : List Fork} → Fine c (record { filtered = a; used = us } ∷ fs) → Fine c (record { filtered = b; used = us } ∷ fs)
fine_filter f = record { small = f.small; inside = f.inside }

pub fine_entered : {c : List Binding} {fs : List Fork} → Fine c fs → (n : Name) (t : Ty) → parts t ≤ 8 → Fine (bound n t ∷ c) fs
fine_entered {c} {fs} f n t h = record { small = (h, f.small); inside = inside_more (length c) (suc (length c)) fs (omega arith) f.inside }
