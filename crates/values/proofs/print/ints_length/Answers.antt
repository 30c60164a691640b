use Rattle.std.proofs.Common.{◌≡◌, length, sum_by, sym, ◌∙◌, arith, rules}
use borrow.Author.Tests.{eqb-false}
use Rattle.values.specs.Texts.{int_text}
use Rattle.values.proofs.Printing.{with_sign, list_length, texts_few}
use Rattle.values.proofs.print.ints_length.Goals as goal

pub overflow_add-result : goal.overflow_add-result
overflow_add-result c =
    let e : c.sum.result ≡ sum_by (with_sign int_text) c.args.xs.now = search rules in
    omega (arith, e, texts_few c.args.xs.now)

pub returns : goal.returns
returns c =
    let e : c.sum.result ≡ sum_by (with_sign int_text) c.args.xs.now = search rules in
    omega (arith, e, list_length int_text c.args.xs.now (omega (arith, eqb-false (length c.args.xs.now) 0 (sym c.is_empty.ensures ∙ c.if-is_empty.false))))
