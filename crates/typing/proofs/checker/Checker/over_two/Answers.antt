use Rattle.std.proofs.Common.{sym, ap, ◌∙◌, arith}
use Rattle.std.proofs.lemmas.Result.{err_from_is_err_and}
use Rattle.types.specs.Entries.{counted}
use Rattle.typing.specs.Holding.{held}
use Rattle.typing.specs.Nodes.{two_rule}
use Rattle.typing.proofs.Steps.{two_ok, two_no}
use Rattle.typing.proofs.checker.Checker.over_two.Goals as goal

pub returns-in_err-given : goal.returns-in_err-given
returns-in_err-given c =
    let r = err_from_is_err_and c.from_residual.result c.from_residual.ensures.1 in
    rw (r.1, r.2) (λ p. two_no (held c.args.self.now) p (two_rule c.args.op) _ _ c.top-a.ensures.is c.top-b.ensures.is _ c.in_err-given.ensures)

pub returns : goal.returns
returns c p =
    two_ok (held c.args.self.now) p (two_rule c.args.op) _ _ c.top-a.ensures.is c.top-b.ensures.is _ _ _ c.in_ok-given.ensures (omega (arith, c.parts.ensures, c.parts-2.ensures, ap counted (c.operand.ensures ∙ sym c.top-a.ensures.is), ap counted (c.operand-2.ensures ∙ sym c.top-b.ensures.is))) c.node.ensures
