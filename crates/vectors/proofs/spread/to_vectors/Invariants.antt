use Rattle.std.proofs.Common.{◌≡◌}
use Rattle.types.specs.TypeRefs.{meant}
use Rattle.vectors.specs.Placing.{spans_of}
use Rattle.vectors.proofs.Placing.{SpreadTo}
use Rattle.vectors.proofs.spread.to_vectors.Given as goal

abbrev pub invariant-loop-k : goal.invariant-loop-k
invariant-loop-k l = record {
  same_reference : l.entries.out.ghost_name ≡ l.initial.entries.out.ghost_name;
  number : l.layout.count ≡ l.k;
  spread : SpreadTo (meant l.t) l.k l.cells l.initial.entries (spans_of l.layout) l.entries;
}
