-- A whole program.
use Rattle.std.proofs.Common.{◌≡◌, ◌≤◌, List, [], ◌∷◌, length, sym, refl, ap, ◌∙◌, subst, arith}
use Rattle.std.proofs.lemmas.List.{append-nil}
use Rattle.grammar.specs.Tree.{Tree, occs}
use Rattle.grammar.specs.declared.occurrence.Occurrence.{Occurrence}
use Rattle.lang.specs.Outcome.{ok}
use Rattle.lang.specs.Check.{Checked, check}
use Rattle.lang.specs.Weight.{weight}
use Rattle.lang.specs.Phrases.{Program, a_program}
use Rattle.lang.proofs.Accepting.{checking}
use Rattle.lang.proofs.Derived.{derived}
use Rattle.judging.specs.Judging.{State}
use Rattle.judging.specs.Occurrences.{program_occs}
use Rattle.program.specs.Loading.{Holds}
use Rattle.plan.specs.Boxes.{boxed}
use Rattle.plan.specs.Filling.{Filling, filling, empty, run, typed}
use Rattle.plan.specs.Planned.{Planned}
use Rattle.plan.proofs.Blocks.{end, forked, block, block_ends, uses_in}
use Rattle.plan.proofs.Runs.{run-append, types_run, runs}
use Rattle.plan.proofs.Having.{planned}
use Rattle.plan.proofs.Weights.{light}
use Rattle.plan.proofs.Few.{few}
use Rattle.plan.proofs.Turns.{typed-is}

-- what all its occurrences leave
filled : (c : Checked) → run (program_occs c) empty ≡ filling (block c.body 0 0) (forked c.body) (boxed c.parameter ∷ []) [] (uses_in c.body)
filled c =
    let body = runs c.body (filling [] [] (boxed c.parameter ∷ []) [] []) 0 0 refl refl refl in
    simp (run-append, types_run, body)

pub plans : (c : Checked) (s : Filling) → s ≡ run (program_occs c) empty → Planned s.entries s.frees (c.parameter ∷ []) c.result c.body 0 (length s.entries)
plans c s e =
    let es = block c.body 0 0 in let fs = forked c.body in
    let long : end c.body 0 ≡ length es = omega (arith, block_ends c.body 0 0) in
    let P : Filling → Type 0 = λ t. Planned t.entries t.frees (c.parameter ∷ []) c.result c.body 0 (length t.entries) in
    subst P (sym (e ∙ filled c)) (subst (λ j. Planned es fs (c.parameter ∷ []) c.result c.body 0 j) long (planned es fs c.body 0 0 [] [] [] [] refl refl (sym (append-nil es)) (sym (append-nil fs))))

-- ---- what is known of a program
weighs : (t : Tree) → Program t → (c : Checked) → check t ≡ ok c → weight c.body ≤ 2000
weighs t (a_program {x} {r} {n} {a} {b} {e} h k j) c q = ((checking x r n a b e c).0 q).light

module _ {os : List Occurrence} {s : State} {c : Checked} (h : Holds os s c) where
  pub few_occurrences : length os ≤ 1024
  few_occurrences =
      let k = h.reads.spells in
      omega (arith, ap length h.reads.is, ap (λ t. length (occs t)) k.is, few k.cuts k.program)

  light_body : weight c.body ≤ 2000
  light_body =
      let k = h.reads.spells in
      weighs h.reads.tree (subst Program (sym k.is) (derived k.tokens 0 k.program.upto k.program.tree k.program.derives)) c h.checks

  pub runs_as : run (typed os s.notes) empty ≡ run (program_occs c) empty
  runs_as = ap (λ l. run l empty) (typed-is h.typed)

  pub few_frees : length (run (typed os s.notes) empty).frees ≤ 2000
  few_frees = omega (arith, ap (λ (t : Filling). length t.frees) (runs_as ∙ filled c), light c.body, light_body)
