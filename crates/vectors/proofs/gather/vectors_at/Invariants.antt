use Rattle.std.proofs.Common.{◌≡◌, ◌+◌, map, take}
use Rattle.lang.specs.Values.{sum_by}
use Rattle.vectors.specs.Placing.{extent, entries}
use Rattle.vectors.specs.Gathering.{left}
use Rattle.vectors.proofs.gather.vectors_at.Given as goal

abbrev pub invariant-loop-span : goal.invariant-loop-span
invariant-loop-span l = record {
  found : left l.vectors.items ≡ map (entries l.ints) (take l.span-index l.spans);
  fits : l.room + sum_by extent (take l.span-index l.spans) ≡ l.fn.room;
}
