use Rattle.std.proofs.Common.{◌∙◌, ap}
use Rattle.std.proofs.lemmas.Result.{MatchResult-weaker}
use Rattle.monoid.specs.Ints.{int_sum}
use Rattle.texts.proofs.Phrases.{hands_on, unopened_pair, stops_in_left, no_comma, stops_in_right, unclosed_pair, pair_read}
use Rattle.texts.proofs.ListPhrases.{unopened_list, list_opened, list_read, stops_in_element, no_sign, list_steps}
use Rattle.texts.proofs.reader.Reader.+phrases.Goals as goal

-- ---- pairs
pub pair-returns-in_err-expect : goal.pair-returns-in_err-expect
pair-returns-in_err-expect t c = hands_on _ _ _ _ c.from_residual.ensures.1 (unopened_pair _ _ _ _ c.in_err-expect.ensures)

pub pair-returns-in_err-value : goal.pair-returns-in_err-value
pair-returns-in_err-value t c =
    hands_on _ _ _ _ c.from_residual-in_err-value.ensures.1 (stops_in_left _ _ _ _ c.in_ok-expect.ensures _ c.in_err-value.ensures)

pub pair-returns-in_err-expect-2 : goal.pair-returns-in_err-expect-2
pair-returns-in_err-expect-2 t c =
    hands_on _ _ _ _ c.from_residual-in_err-expect-2.ensures.1 (no_comma _ _ _ _ c.in_ok-expect.ensures _ c.in_ok-value.ensures _ c.in_err-expect-2.ensures)

pub pair-returns-in_err-value-2 : goal.pair-returns-in_err-value-2
pair-returns-in_err-value-2 t c =
    hands_on _ _ _ _ c.from_residual-in_err-value-2.ensures.1
    (stops_in_right _ _ _ _ c.in_ok-expect.ensures _ c.in_ok-value.ensures _ c.in_ok-expect-2.ensures _ c.in_err-value-2.ensures)

pub pair-returns : goal.pair-returns
pair-returns t c =
    MatchResult-weaker _ c.expect-3.ensures
    (λ _ closes. pair_read _ _ _ _ c.in_ok-expect.ensures _ c.in_ok-value.ensures _ c.in_ok-expect-2.ensures _ c.in_ok-value-2.ensures _ closes)
    (λ stop miss. unclosed_pair _ _ _ _ c.in_ok-expect.ensures _ c.in_ok-value.ensures _ c.in_ok-expect-2.ensures _ c.in_ok-value-2.ensures _ miss)

-- ---- lists
pub list-returns-in_err-header : goal.list-returns-in_err-header
list-returns-in_err-header t c = hands_on _ _ _ _ c.from_residual.ensures.1 (unopened_list _ _ _ c.in_err-header.ensures)

pub list-loop-more-init : goal.list-loop-more-init
list-loop-more-init t c = list_opened _ _ _ _ c.in_ok-header.ensures _ _ _ c.zero-count.ensures c.take-more.ensures

pub list-returns-in_err-value : goal.list-returns-in_err-value
list-returns-in_err-value t c =
    hands_on _ _ _ _ c.from_residual-in_err-value.ensures.1 (stops_in_element _ _ _ _ _ _ c.loop-more-test.true c.loop-more.invariant _ c.in_err-value.ensures)

pub list-returns-in_err-sign : goal.list-returns-in_err-sign
list-returns-in_err-sign t c =
    hands_on _ _ _ _ c.from_residual-in_err-sign.ensures.1
    (no_sign _ _ _ _ _ _ c.loop-more-test.true c.loop-more.invariant _ c.in_ok-value.ensures _ c.in_err-sign.ensures)

pub list-loop-more-preserved : goal.list-loop-more-preserved
list-loop-more-preserved t c =
    list_steps _ _ _ _ _ _ c.loop-more-test.true c.loop-more.invariant _ c.in_ok-value.ensures _ c.in_ok-sign.field-0 _ c.eq-more.ensures c.in_ok-sign.ensures
    _ (c.wrapping_add-count.ensures ∙ ap (int_sum c.loop-more.count) c.one.ensures)

pub list-returns : goal.list-returns
list-returns t c = list_read _ _ _ _ _ _ _ c.loop-more-test.false c.loop-more.invariant c.store.ensures

-- ---- every type
pub value-returns-in-Int : goal.value-returns-in-Int
value-returns-in-Int t c = rw c.in-Int.ensures c.scalar.ensures

pub value-returns-in-Bool : goal.value-returns-in-Bool
value-returns-in-Bool t c = rw c.in-Bool.ensures c.scalar-in-Bool.ensures
