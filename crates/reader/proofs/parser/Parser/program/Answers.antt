use Rattle.std.proofs.lemmas.Result.{MatchResult-weaker}
use Rattle.reader.proofs.Ways.{fails, take_on, mark_on, name_on, type_on, stopped, stopped_at, stopped_type}
use Rattle.reader.proofs.Begun.{program_way}
use Rattle.reader.proofs.Phrases.{program_read}
use Rattle.reader.proofs.parser.Parser.program.Goals as goal

pub returns-in_err-expect : goal.returns-in_err-expect
returns-in_err-expect c = fails _ _ _ c.from_residual.ensures.1 (stopped_at program_way c.in_err-expect.ensures)

pub returns-in_err-expect-2 : goal.returns-in_err-expect-2
returns-in_err-expect-2 c = fails _ _ _ c.from_residual-in_err-expect-2.ensures.1 (stopped_at (take_on program_way c.in_ok-expect.ensures) c.in_err-expect-2.ensures)

pub returns-in_err-name : goal.returns-in_err-name
returns-in_err-name c = fails _ _ _ c.from_residual-in_err-name.ensures.1 (stopped (take_on (take_on program_way c.in_ok-expect.ensures) c.in_ok-expect-2.ensures) (λ γ free. tt) c.in_err-name.ensures)

pub returns-in_err-expect-3 : goal.returns-in_err-expect-3
returns-in_err-expect-3 c = fails _ _ _ c.from_residual-in_err-expect-3.ensures.1 (stopped_at (name_on (take_on (take_on program_way c.in_ok-expect.ensures) c.in_ok-expect-2.ensures) c.in_ok-name.ensures) c.in_err-expect-3.ensures)

pub returns-in_err-type_phrase : goal.returns-in_err-type_phrase
returns-in_err-type_phrase c = fails _ _ _ c.from_residual-in_err-type_phrase.ensures.1 (stopped_type (take_on (name_on (take_on (take_on program_way c.in_ok-expect.ensures) c.in_ok-expect-2.ensures) c.in_ok-name.ensures) c.in_ok-expect-3.ensures) c.in_err-type_phrase.ensures)

pub returns-in_err-mark : goal.returns-in_err-mark
returns-in_err-mark c = fails _ _ _ c.from_residual-in_err-mark.ensures.1 (stopped_at (type_on (take_on (name_on (take_on (take_on program_way c.in_ok-expect.ensures) c.in_ok-expect-2.ensures) c.in_ok-name.ensures) c.in_ok-expect-3.ensures) c.in_ok-type_phrase.ensures) c.in_err-mark.ensures)

pub returns-in_err-expect-4 : goal.returns-in_err-expect-4
returns-in_err-expect-4 c = fails _ _ _ c.from_residual-in_err-expect-4.ensures.1 (stopped_at (mark_on (type_on (take_on (name_on (take_on (take_on program_way c.in_ok-expect.ensures) c.in_ok-expect-2.ensures) c.in_ok-name.ensures) c.in_ok-expect-3.ensures) c.in_ok-type_phrase.ensures) c.in_ok-mark.ensures) c.in_err-expect-4.ensures)

pub returns-in_err-type_phrase-2 : goal.returns-in_err-type_phrase-2
returns-in_err-type_phrase-2 c = fails _ _ _ c.from_residual-in_err-type_phrase-2.ensures.1 (stopped_type (take_on (mark_on (type_on (take_on (name_on (take_on (take_on program_way c.in_ok-expect.ensures) c.in_ok-expect-2.ensures) c.in_ok-name.ensures) c.in_ok-expect-3.ensures) c.in_ok-type_phrase.ensures) c.in_ok-mark.ensures) c.in_ok-expect-4.ensures) c.in_err-type_phrase-2.ensures)

pub returns-in_err-mark-2 : goal.returns-in_err-mark-2
returns-in_err-mark-2 c = fails _ _ _ c.from_residual-in_err-mark-2.ensures.1 (stopped_at (type_on (take_on (mark_on (type_on (take_on (name_on (take_on (take_on program_way c.in_ok-expect.ensures) c.in_ok-expect-2.ensures) c.in_ok-name.ensures) c.in_ok-expect-3.ensures) c.in_ok-type_phrase.ensures) c.in_ok-mark.ensures) c.in_ok-expect-4.ensures) c.in_ok-type_phrase-2.ensures) c.in_err-mark-2.ensures)

pub returns : goal.returns
returns c = MatchResult-weaker c.expr.result c.expr.ensures (λ _ x. program_read c.in_ok-expect.ensures c.in_ok-expect-2.ensures c.in_ok-name.ensures c.in_ok-expect-3.ensures c.place-place.ensures c.in_ok-type_phrase.ensures c.in_ok-mark.ensures c.in_ok-expect-4.ensures c.place-into.ensures c.in_ok-type_phrase-2.ensures c.in_ok-mark-2.ensures x) (λ f n. stopped (mark_on (type_on (take_on (mark_on (type_on (take_on (name_on (take_on (take_on program_way c.in_ok-expect.ensures) c.in_ok-expect-2.ensures) c.in_ok-name.ensures) c.in_ok-expect-3.ensures) c.in_ok-type_phrase.ensures) c.in_ok-mark.ensures) c.in_ok-expect-4.ensures) c.in_ok-type_phrase-2.ensures) c.in_ok-mark-2.ensures) (λ γ free. free) n)
