use Rattle.std.proofs.Common.{rules}
use Rattle.typing.specs.Holding.{held}
use Rattle.typing.proofs.Lists.{under-take-map}
use Rattle.typing.proofs.Held.{leave_held}
use Rattle.typing.proofs.checker.Checker.leave.Goals as goal

pub invariant_of-self-clause-codes : goal.invariant_of-self-clause-codes
invariant_of-self-clause-codes c =
    let s = c.args.self.now in
    (under-take-map (λ b. b.code) _ _ _ _ s.codes.0 c.pop.ensures.rest, s.codes.1, s.codes.2)

pub returns : goal.returns
unfolding held
returns c = leave_held c.args.self.now _ _ (search rules) c.pop.ensures.rest
