use Rattle.std.proofs.Common.{◌≡◌, drop, vec_items, vec_capacity}
use Rattle.typing.specs.Codes.{replay}
use Rattle.typing.proofs.flags.replay.Given as goal

-- the uses that are left give the same flags
abbrev pub invariant-loop-u : goal.invariant-loop-u
invariant-loop-u l = record {
  items : replay (drop l.u-index l.uses) (vec_items l.flags) ≡ replay l.uses (vec_items l.initial.flags);
  capacity : vec_capacity l.flags ≡ vec_capacity l.initial.flags;
}
