-- What a plan holds.
use Rattle.std.specs.Prelude.{◌<◌, List, [], ◌∷◌, reverse, length, vec_items}
use Rattle.lang.specs.Check.{Checked}
use Rattle.plan.specs.declared.table.Entry.{Entry}
use Rattle.plan.specs.declared.table.Free.{Free}
use Rattle.plan.specs.declared.plan.Plan.{Plan}
use Rattle.plan.specs.Planned.{Planned}
use Rattle.plan.specs.Filling.{Filling, filling}

abbrev pub entries_of : Plan → List Entry
entries_of p = vec_items p.entries

abbrev pub frees_of : Plan → List Free
frees_of p = vec_items p.frees

-- the plan is that of the program c: its table has the body, from the first entry to the last
abbrev pub Plans : Plan → Checked → Type 0
Plans p c = Planned (entries_of p) (frees_of p) (c.parameter ∷ []) c.result c.body 0 (length (entries_of p))

-- the table that is being filled: of the scope and the forks the last is the innermost
unfoldable pub held : Plan → Filling
held p = filling (vec_items p.entries) (vec_items p.frees) (reverse (vec_items p.scope)) (reverse (vec_items p.forks)) (vec_items p.uses)

-- there is room for one occurrence more
pub record Room (s : Filling) : Type 0 where
  pub entries : length s.entries < 1024
  pub scope : length s.scope < 1024
  pub forks : length s.forks < 1024
  pub uses : length s.uses < 1024
