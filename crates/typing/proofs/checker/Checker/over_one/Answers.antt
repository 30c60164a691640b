use Rattle.std.proofs.Common.{sym, ap, ◌∙◌}
use Rattle.std.proofs.lemmas.Result.{err_from_is_err_and}
use Rattle.types.specs.Entries.{counted}
use Rattle.typing.specs.Holding.{held}
use Rattle.typing.specs.Nodes.{one_rule}
use Rattle.typing.proofs.Steps.{one_ok, one_no}
use Rattle.typing.proofs.checker.Checker.over_one.Goals as goal

pub returns-in_err-given : goal.returns-in_err-given
returns-in_err-given c =
    let r = err_from_is_err_and c.from_residual.result c.from_residual.ensures.1 in
    rw (r.1, r.2) (λ p. one_no (held c.args.self.now) p (one_rule c.args.op) _ c.top-a.ensures.is _ c.in_err-given.ensures)

pub returns : goal.returns
returns c p =
    one_ok (held c.args.self.now) p (one_rule c.args.op) _ c.top-a.ensures.is _ _ _ c.in_ok-given.ensures (c.parts-parts.ensures ∙ ap counted (c.operand.ensures ∙ sym c.top-a.ensures.is)) c.node.ensures
