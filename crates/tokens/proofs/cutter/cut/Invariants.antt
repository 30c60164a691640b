use Rattle.std.proofs.Common.{◌≡◌, ◌-◌, ◌≤◌, length, vec_items, vec_capacity}
use Rattle.tokens.proofs.Cutting.{Open}
use Rattle.tokens.proofs.cutter.cut.Given as goal

abbrev pub invariant-loop-token : goal.invariant-loop-token
invariant-loop-token l = Open l.text (vec_items l.out) l.from × (l.from ≤ length l.text) × (length (vec_items l.out) ≤ 1024) × (vec_capacity l.out ≡ vec_capacity l.initial.out) × (1025 ≤ vec_capacity l.out)

abbrev pub decreases-loop-token : goal.decreases-loop-token
decreases-loop-token l = length l.text - l.from
