use Rattle.std.proofs.Common.{rules}
use Rattle.std.proofs.lemmas.Result.{err_from_is_err_and}
use Rattle.typing.specs.Holding.{known}
use Rattle.typing.proofs.Bracketing.{bracketed_are, none_bracketed}
use Rattle.typing.proofs.checker.Checker.list_type.Goals as goal

pub returns-in_default : goal.returns-in_default
returns-in_default c =
    rw (← c.operands-elements.ensures) (none_bracketed (known c.args.self.now) c.operands-elements.result.now c.in_default.ensures.cases)

pub returns-in_err-ensure : goal.returns-in_err-ensure
returns-in_err-ensure c =
    let r = err_from_is_err_and c.from_residual.result c.from_residual.ensures.1 in
    let e = bracketed_are (known c.args.self.now) _ _ _ c.in-Some.ensures.cases.0 _ c.one_type.ensures in
    rw (r.1, r.2, ← c.operands-elements.ensures, e, c.in_err-ensure.ensures.0) (search rules)

pub returns-in_err-ensure-2 : goal.returns-in_err-ensure-2
returns-in_err-ensure-2 c =
    let r = err_from_is_err_and c.from_residual-in_err-ensure-2.result c.from_residual-in_err-ensure-2.ensures.1 in
    let e = bracketed_are (known c.args.self.now) _ _ _ c.in-Some.ensures.cases.0 _ c.one_type.ensures in
    rw (r.1, r.2, ← c.operands-elements.ensures, e, c.in_ok-ensure.ensures, c.in_err-ensure-2.ensures.0) (search rules)

pub returns : goal.returns
returns c =
    let e = bracketed_are (known c.args.self.now) _ _ _ c.in-Some.ensures.cases.0 _ c.one_type.ensures in
    rw (← c.operands-elements.ensures, e, c.in_ok-ensure.ensures, c.in_ok-ensure-2.ensures) (search rules)
