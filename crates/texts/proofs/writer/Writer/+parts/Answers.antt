use Rattle.std.proofs.Common.{arith}
use Rattle.types.specs.Types.{int, bool}
use Rattle.texts.proofs.Writing.{written_as, int_written, bool_written, pair_written, none_listed, first_listed, next_listed, all_listed}
use Rattle.texts.proofs.writer.Writer.+parts.Goals as goal
use Rattle.texts.proofs.writer.Writer.+parts.Goals.{list-then-count-gt0+else-loop-test, list-else-count-gt0}

-- ---- pairs
pub pair-returns : goal.pair-returns
pair-returns t c = pair_written _ _ _ _ _ _ _ _ c.put.ensures c.value.ensures c.put-2.ensures c.value-2.ensures c.put-3.ensures

-- ---- lists
pub list-loop-init : goal.list-loop-init
list-loop-init t c =
    first_listed _ _ _ _ _ c.next_count-count.ensures c.put.ensures (λ none. omega (arith, none, c.if-count-gt0.true)) _ c.value.ensures

pub list-loop-preserved : goal.list-loop-preserved
list-loop-preserved t c = next_listed _ _ _ _ _ _ _ c.loop.invariant c.loop-test.true _ c.byte.ensures c.put-in-loop.ensures c.value-in-loop.ensures

pub list-returns : goal.list-returns
list-returns t c =
    elim c.if-count-gt0.branch [
      | list-then-count-gt0+else-loop-test w ↦ all_listed _ _ _ _ _ _ _ w.self-is w.loop.invariant w.loop-test.false _ c.byte-2.ensures c.put-2.ensures
      | list-else-count-gt0 w ↦
          all_listed _ _ _ _ _ _ _ w.self-is (none_listed _ _ _ _ _ c.next_count-count.ensures c.put.ensures w.if-count-gt0.false) w.if-count-gt0.false
          _ c.byte-2.ensures c.put-2.ensures
    ]

-- ---- every type
pub value-returns-in-Int : goal.value-returns-in-Int
value-returns-in-Int t c = written_as _ int _ _ c.in-Int.ensures (int_written _ _ _ _ c.next_cell-cell.ensures c.put_int.ensures)

pub value-returns-in-Bool : goal.value-returns-in-Bool
value-returns-in-Bool t c = written_as _ bool _ _ c.in-Bool.ensures (bool_written _ _ _ _ c.next_cell-cell-in-Bool.ensures _ c.is_zero.ensures c.put_bool.ensures)
