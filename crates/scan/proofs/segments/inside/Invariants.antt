use Rattle.std.proofs.Common.{◌≡◌, ℕ, ◌<◌, false, cond, eqb, get_or}
use Rattle.scan.proofs.segments.inside.Given as goal

abbrev pub invariant-loop-i : goal.invariant-loop-i
invariant-loop-i g l =
    let unit = g.M.Monoid.unit in
    (k : ℕ) → k < l.i → get_or l.out k unit ≡ cond (eqb k 0) unit (get_or l.places k (false, unit)).1
