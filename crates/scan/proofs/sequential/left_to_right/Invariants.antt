use Rattle.std.proofs.Common.{◌≡◌, ℕ, ◌%◌, ◌^◌, ◌<◌, ◌≤◌, get_or, take}
use Rattle.monoid.specs.Laws.{product}
use Rattle.scan.proofs.sequential.left_to_right.Given as goal

abbrev pub invariant-loop-x : goal.invariant-loop-x
invariant-loop-x g l =
    let m = g.M.Monoid in
    record {
      sum : l.sum ≡ product m.unit m.op (take l.x-index l.initial.xs);
      before : (k : ℕ) → k < l.x-index → get_or l.xs k m.unit ≡ product m.unit m.op (take k l.initial.xs);
      from : (k : ℕ) (d : g.row.M-Element.Denot) → l.x-index ≤ k → get_or l.xs k d ≡ get_or l.initial.xs k d;
      made : l.made ≡ l.x-index % 2 ^ 64;
    }
