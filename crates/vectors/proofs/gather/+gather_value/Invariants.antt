use Rattle.std.proofs.Common.{◌≡◌, ◌-◌, List, Option}
use Rattle.monoid.specs.declared.int.Int.{Int}
use Rattle.types.specs.TypeRefs.{meant}
use Rattle.vectors.specs.declared.writer.Writer.{Writer}
use Rattle.vectors.specs.Gathering.{left}
use Rattle.vectors.proofs.Gathering.{GathersAll}
use Rattle.vectors.proofs.gather.+gather_value.Given as goal

abbrev pub decreases-gather_value : goal.decreases-gather_value
decreases-gather_value l = l.t.code

-- what is gathered of the rest from here, is gathered of all from the start
abbrev pub invariant-loop : goal.invariant-loop
invariant-loop l = record {
  same_reference : l.cells.out.ghost_name ≡ l.initial.cells.out.ghost_name;
  rest : (r : Option (Unit {0})) (vs : List (List Int)) (w : Writer) → GathersAll (meant l.element) (l.count - l.counter) (left l.elements) l.cells r vs w
      → GathersAll (meant l.element) l.count (left l.initial.elements) l.initial.cells r vs w;
}
