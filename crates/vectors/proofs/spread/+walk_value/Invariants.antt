use Rattle.std.proofs.Common.{◌≡◌, ◌-◌, List, Option}
use Rattle.monoid.specs.declared.int.Int.{Int}
use Rattle.types.specs.TypeRefs.{meant}
use Rattle.vectors.specs.declared.writer.Writer.{Writer}
use Rattle.vectors.proofs.Walking.{WalksAll}
use Rattle.vectors.proofs.spread.+walk_value.Given as goal

abbrev pub decreases-walk_value : goal.decreases-walk_value
decreases-walk_value l = l.t.code

-- what the walk over the rest does from here, the walk over all does from the start
abbrev pub invariant-loop : goal.invariant-loop
invariant-loop l = record {
  same_reference : l.entries.out.ghost_name ≡ l.initial.entries.out.ghost_name;
  rest : (r : Option (Unit {0})) (cs : List Int) (w : Writer) → WalksAll (meant l.element) (l.count - l.counter) l.behind l.cells.now l.entries r cs w
      → WalksAll (meant l.element) l.count l.behind l.initial.cells.now l.initial.entries r cs w;
}
