use Rattle.std.proofs.Common.{vec_items}
use Rattle.values.specs.Texts.{rows_text}
use Rattle.values.proofs.Rowing.{row_separate, hands_on, stops_whole, more_follows, rows_kept, held_covers, whole_rows}
use Rattle.values.proofs.rows.read_rows.Goals as goal

pub read_list-requires : goal.read_list-requires
read_list-requires c = row_separate

pub returns-in_err-length : goal.returns-in_err-length
returns-in_err-length c = hands_on _ _ _ _ (stops_whole rows_text c.args.text.now) _ c.from_residual.ensures.1 c.in_err-length.ensures

pub returns-then-length-text : goal.returns-then-length-text
returns-then-length-text c = more_follows rows_text _ _ _ c.in_ok-length.ensures.is c.if-length-text.true

pub invariant_of-result : goal.invariant_of-result
invariant_of-result c = record { covered = held_covers _ _ _ (rows_kept (λ r. vec_items r.ints) (λ r. vec_items r.lengths) _ _ _ c.new.ensures.items c.new-2.ensures.items c.in_ok-length.ensures.kept) }

pub returns : goal.returns
returns c =
    whole_rows _ _ _ _ _ c.in_ok-length.ensures.is (rows_kept (λ r. vec_items r.ints) (λ r. vec_items r.lengths) _ _ _ c.new.ensures.items c.new-2.ensures.items c.in_ok-length.ensures.kept) c.if-length-text.false
