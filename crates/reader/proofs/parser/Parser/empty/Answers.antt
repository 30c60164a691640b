use Rattle.std.proofs.lemmas.Result.{MatchResult-weaker}
use Rattle.reader.proofs.Ways.{fails, take_on, type_on, stopped_at, stopped_type}
use Rattle.reader.proofs.Begun.{empty_way}
use Rattle.reader.proofs.Phrases.{empty_read}
use Rattle.reader.proofs.parser.Parser.empty.Goals as goal

pub returns-in_err-expect : goal.returns-in_err-expect
returns-in_err-expect c = fails _ _ _ c.from_residual.ensures.1 (stopped_at (empty_way c.requires c.pass-place.ensures.took) c.in_err-expect.ensures)

pub returns-in_err-type_phrase : goal.returns-in_err-type_phrase
returns-in_err-type_phrase c = fails _ _ _ c.from_residual-in_err-type_phrase.ensures.1 (stopped_type (take_on (empty_way c.requires c.pass-place.ensures.took) c.in_ok-expect.ensures) c.in_err-type_phrase.ensures)

pub returns : goal.returns
returns c = MatchResult-weaker c.mark.result c.mark.ensures (λ _ x. empty_read c.requires c.pass-place.ensures.took c.pass-place.ensures.place c.in_ok-expect.ensures c.in_ok-type_phrase.ensures x) (λ f n. stopped_at (type_on (take_on (empty_way c.requires c.pass-place.ensures.took) c.in_ok-expect.ensures) c.in_ok-type_phrase.ensures) n)
