use Rattle.std.proofs.Common.{◌≡◌, false, replicate, vec_items, vec_len, vec_capacity}
use Rattle.typing.proofs.flags.fill.Given as goal

abbrev pub invariant-loop : goal.invariant-loop
invariant-loop l = record {
  items : vec_items l.flags ≡ replicate l.counter false;
  len : vec_len l.flags ≡ l.counter;
  capacity : vec_capacity l.flags ≡ vec_capacity l.initial.flags;
}
