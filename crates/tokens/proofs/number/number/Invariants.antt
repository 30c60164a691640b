use Rattle.std.proofs.Common.{◌≡◌, take}
use Rattle.tokens.specs.Numbers.{worth}
use Rattle.tokens.proofs.number.number.Given as goal

abbrev pub invariant-loop-d : goal.invariant-loop-d
invariant-loop-d l = l.sum ≡ worth (take l.d-index l.digits)
