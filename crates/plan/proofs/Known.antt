-- What is known of every checked program.
use Rattle.std.proofs.Common.{◌≡◌, ◌≤◌, [], ◌∷◌, map, length, ◌∙◌}
use mathlib.Core.Logic.{∥∥₁_elim}
use native.Mathlib.Bridge.{le_prop}
use Rattle.types.specs.Table.{types_in}
use Rattle.lang.specs.Check.{Checked}
use Rattle.typing.specs.Codes.{note_of}
use Rattle.typing.specs.Holding.{held}
use Rattle.program.specs.declared.checked.CheckedProgram.{CheckedProgram}
use Rattle.program.specs.Answers.{done_in, types_of, noted, Is}
use Rattle.plan.specs.Filling.{Filling, empty, run, typed}
use Rattle.plan.specs.Planned.{Planned}
use Rattle.plan.proofs.Whole.{few_occurrences, few_frees, runs_as, plans}

module _ (p : CheckedProgram) where
  -- what its occurrences and their notes leave
  abbrev pub all : Filling
  all = run (typed (done_in p) (map (note_of (types_in (types_of p))) (noted p))) empty

  pub few : length (done_in p) ≤ 1024
  few = ∥∥₁_elim p.sound le_prop (λ x. few_occurrences x.1)

  pub frees : length all.frees ≤ 2000
  unfolding held
  frees = ∥∥₁_elim p.sound le_prop (λ x. few_frees x.1)

  pub has : (s : Filling) → s ≡ all → (c : Checked) → Is p c → Planned s.entries s.frees (c.parameter ∷ []) c.result c.body 0 (length s.entries)
  unfolding held
  has s e c h = plans c s (e ∙ runs_as h)
