use Rattle.std.proofs.Common.{rules}
use Rattle.typing.specs.Holding.{held}
use Rattle.typing.proofs.Lists.{under-take-map}
use Rattle.typing.proofs.Forking.{close_held}
use Rattle.typing.proofs.checker.Checker.close.Goals as goal

pub invariant_of-self-clause-logged : goal.invariant_of-self-clause-logged
invariant_of-self-clause-logged c =
    let s = c.args.self.now in
    (under-take-map (λ f. f.start) _ _ _ _ s.logged.0 c.pop.ensures.rest, under-take-map (λ f. f.depth) _ _ _ _ s.logged.1 c.pop.ensures.rest)

pub returns : goal.returns
unfolding held
returns c = close_held c.args.self.now _ _ (search rules) c.pop.ensures.rest
