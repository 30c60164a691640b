use Rattle.std.proofs.Common.{refl, rules}
use Rattle.texts.specs.Outcome.{Unread}
use Rattle.texts.proofs.Phrases.{hands_on}
use Rattle.texts.proofs.Outcome.{whole_stops, more_follows, too_large, whole_value}
use Rattle.texts.proofs.read.read_value.Goals as goal

pub returns-in_err-value : goal.returns-in_err-value
returns-in_err-value c = hands_on _ _ (Unread _ _ _) _ c.from_residual.ensures.1 (whole_stops _ _ _ refl c.in_err-value.ensures)

pub returns-then-reader-text : goal.returns-then-reader-text
returns-then-reader-text c = more_follows _ _ _ c.in_ok-value.ensures refl refl c.if-reader-text.true

pub returns-then-reader : goal.returns-then-reader
returns-then-reader c = too_large _ _ _ c.in_ok-value.ensures refl refl c.if-reader-text.false c.if-reader.true

pub returns : goal.returns
returns c =
    let kept = c.in_ok-value.ensures.moved.same_reference in
    whole_value _ _ _ c.in_ok-value.ensures refl refl c.if-reader-text.false c.if-reader.false _ (search rules)
