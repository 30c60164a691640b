use Rattle.std.proofs.Common.{◌≡◌, false, ◌-◌, length, vec_items, rules}
use Rattle.std.specs.List.{slice_get}
use Rattle.typing.proofs.Forking.{last_held}
use Rattle.typing.proofs.checker.Checker.last_fork.Goals as goal

pub returns : goal.returns
returns c =
    let fs = vec_items c.args.self.now.forks in
    let e : c.copied.result ≡ slice_get fs (length fs - 1) = cc in
    rw c.unwrap_or.ensures (last_held c.args.self.now c.copied.result (record { filtered = false; depth = 0; start = c.len.result }) e (search rules))
