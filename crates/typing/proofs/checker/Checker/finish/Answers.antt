use Rattle.std.proofs.Common.{◌≡◌, rules}
use Rattle.judging.specs.Judging.{top, popped}
use Rattle.typing.specs.Holding.{held}
use Rattle.typing.proofs.Ending.{heavy_end, good_end}
use Rattle.typing.proofs.checker.Checker.finish.Goals as goal

pub returns-then-self-gt-MAX_WEIGHT : goal.returns-then-self-gt-MAX_WEIGHT
unfolding held
returns-then-self-gt-MAX_WEIGHT c =
    let s = held c.args.self.now in
    let e : top s ≡ top (popped 1 s) = search rules in
    heavy_end s e c.if-self-gt-MAX_WEIGHT.true

pub returns : goal.returns
unfolding held
returns c =
    let s = held c.args.self.now in
    let e : top s ≡ top (popped 1 s) = search rules in
    good_end s e c.if-self-gt-MAX_WEIGHT.false
