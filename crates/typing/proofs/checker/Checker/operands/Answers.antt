use Rattle.std.proofs.Common.{◌∙◌, map, length, drop, vec_items, sym, ap, arith}
use Rattle.std.proofs.lemmas.List.{take_rest}
use Rattle.typing.specs.Codes.{type_at}
use Rattle.typing.specs.Holding.{held, known}
use Rattle.typing.proofs.Bracketing.{operands_are}
use Rattle.typing.proofs.checker.Checker.operands.Goals as goal

pub returns : goal.returns
unfolding held
returns c =
    let f = type_at (known c.args.self.now) in
    let b = c.saturating_sub.result in
    let len = ap length c.as_slice-codes.ensures.value in
    ap (map f) (take_rest c.as_slice-codes.result.now b ∙ ap (drop b) c.as_slice-codes.ensures.value) ∙ sym (operands_are f (vec_items c.args.self.now.stack) c.args.n b (omega (arith, c.saturating_sub.ensures, len)))
