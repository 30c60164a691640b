use Rattle.std.proofs.Common.{◌-◌, ◌+◌, inl, inr, refl, Some, arith, rules}
use Rattle.lang.specs.Layout.{flag}
use Rattle.vectors.specs.Walking.{Walks}
use Rattle.vectors.proofs.Shapes.{int_or_bool}
use Rattle.vectors.proofs.Writing.{stuck, answered}
use Rattle.vectors.proofs.Walking.{walks_at, pair_walks, list_walks, list_empty, list_uncounted, list_stops, walks_none, walks_more}
use Rattle.vectors.proofs.spread.+walk_value.Goals as goal

pub returns-in_err-step-in-Int-clause-walks : goal.returns-in_err-step-in-Int-clause-walks
returns-in_err-step-in-Int-clause-walks t c =
    int_or_bool (λ t. Walks t c.args.wanted c.args.cells.now.now c.args.entries.now c.from_residual.result c.step.new.cells.now c.step.new.entries)
    c.args.t c.shape.result c.shape.ensures c.in-Int.is
    (record { goes = λ v rest small fits is h. absurd (stuck (c.in_err-step-in-Int.ensures.steps.goes v rest is h)) })
    (record { goes = λ v rest small fits is h. absurd (stuck (c.in_err-step-in-Int.ensures.steps.goes (flag v) rest is h)) })

pub returns-in_ok-step-in-Int-clause-walks : goal.returns-in_ok-step-in-Int-clause-walks
returns-in_ok-step-in-Int-clause-walks t c =
    int_or_bool (λ t. Walks t c.args.wanted c.args.cells.now.now c.args.entries.now (Some tt) c.step.new.cells.now c.step.new.entries)
    c.args.t c.shape.result c.shape.ensures c.in-Int.is
    (record { goes = λ v rest small fits is h. answered tt (c.in_ok-step-in-Int.ensures.steps.goes v rest is h) })
    (record { goes = λ v rest small fits is h. answered tt (c.in_ok-step-in-Int.ensures.steps.goes (flag v) rest is h) })

pub returns-in_err-walk_value-in-Pair-clause-walks : goal.returns-in_err-walk_value-in-Pair-clause-walks
returns-in_err-walk_value-in-Pair-clause-walks t c =
    walks_at c.in-Pair.ensures.2 (pair_walks {k' = c.past-behind.result} c.parts.ensures c.past-behind.ensures c.in_err-walk_value-in-Pair.ensures.walks (inl refl))

pub returns-in_ok-walk_value-in-Pair-clause-walks : goal.returns-in_ok-walk_value-in-Pair-clause-walks
returns-in_ok-walk_value-in-Pair-clause-walks t c =
    walks_at c.in-Pair.ensures.2 (pair_walks c.parts.ensures c.past-behind.ensures c.in_ok-walk_value-in-Pair.ensures.walks (inr c.walk_value-in-Pair.ensures.walks))

pub returns-in_err-first-in-List-clause-walks : goal.returns-in_err-first-in-List-clause-walks
returns-in_err-first-in-List-clause-walks t c = walks_at c.in-List.ensures.1 (list_empty c.in_err-first-in-List.ensures.value)

pub returns-in_err-count-in-List-clause-walks : goal.returns-in_err-count-in-List-clause-walks
returns-in_err-count-in-List-clause-walks t c =
    walks_at c.in-List.ensures.1 (list_uncounted c.in_ok-first-in-List.ensures.value c.in_err-count-in-List.ensures)

pub returns-in_err-step-in-List-clause-walks : goal.returns-in_err-step-in-List-clause-walks
returns-in_err-step-in-List-clause-walks t c =
    walks_at c.in-List.ensures.1 (list_stops c.past-behind-in-List.ensures c.in_err-step-in-List.ensures.steps)

pub returns-in_err-walk_value-in-List-clause-walks : goal.returns-in_err-walk_value-in-List-clause-walks
returns-in_err-walk_value-in-List-clause-walks t c = walks_at c.in-List.ensures.1 (list_walks c.past-behind-in-List.ensures
    c.in_ok-first-in-List.ensures.value c.in_ok-count-in-List.ensures c.in_ok-step-in-List.ensures.steps
    (c.loop.invariant.rest _ _ _ (walks_more (c.in_ok-count-in-List.count - (c.loop.counter + 1)) (omega arith) c.in_err-walk_value-in-List.ensures.walks (inl refl))))

pub loop-preserved : goal.loop-preserved
loop-preserved t c = record {
  same_reference = search rules;
  rest = λ r cs w all. c.loop.invariant.rest r cs w (walks_more _ (omega arith) c.in_ok-walk_value-in-List.ensures.walks (inr all));
}

pub returns-after-loop-clause-walks : goal.returns-after-loop-clause-walks
returns-after-loop-clause-walks t c = walks_at c.in-List.ensures.1 (list_walks c.past-behind-in-List.ensures
    c.in_ok-first-in-List.ensures.value c.in_ok-count-in-List.ensures c.in_ok-step-in-List.ensures.steps (c.loop.invariant.rest _ _ _ (walks_none (omega arith))))
