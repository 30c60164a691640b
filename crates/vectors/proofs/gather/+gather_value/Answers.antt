use Rattle.std.proofs.Common.{◌-◌, ◌+◌, inl, inr, refl, arith, rules}
use Rattle.std.proofs.lemmas.List.{length-map}
use Rattle.vectors.specs.Gathering.{left, Gathers}
use Rattle.vectors.proofs.Shapes.{int_or_bool}
use Rattle.vectors.proofs.Gathering.{gathers_at, no_entry, one_gathers, pair_gathers, few_vectors, list_gathers, list_stops, list_uncounted}
use Rattle.vectors.proofs.Gathering.{gathers_none, gathers_more}
use Rattle.vectors.proofs.gather.+gather_value.Goals as goal

pub returns-in_err-next-in-Int-clause-gathers : goal.returns-in_err-next-in-Int-clause-gathers
returns-in_err-next-in-Int-clause-gathers t c =
    int_or_bool (λ t. Gathers t (left c.args.vectors.now) c.args.cells.now c.from_residual.result (left c.next.new.vectors) c.args.cells.now)
    c.args.t c.shape.result c.shape.ensures c.in-Int.is
    (record { goes = λ v vs others small fits is h. absurd (no_entry is c.in_err-next-in-Int.ensures.entry) })
    (record { goes = λ v vs others small fits is h. absurd (no_entry is c.in_err-next-in-Int.ensures.entry) })

pub returns-in_ok-next-in-Int-clause-gathers : goal.returns-in_ok-next-in-Int-clause-gathers
returns-in_ok-next-in-Int-clause-gathers t c =
    int_or_bool (λ t. Gathers t (left c.args.vectors.now) c.args.cells.now c.put.result (left c.next.new.vectors) c.put.new.self)
    c.args.t c.shape.result c.shape.ensures c.in-Int.is
    (record {
      goes = λ v vs others small fits is h.
          one_gathers is c.in_ok-next-in-Int.ensures.entry c.in_ok-next-in-Int.ensures.rest c.put.ensures.puts h;
    })
    (record {
      goes = λ v vs others small fits is h.
          one_gathers is c.in_ok-next-in-Int.ensures.entry c.in_ok-next-in-Int.ensures.rest c.put.ensures.puts h;
    })

pub returns-then-vectors-count-clause-gathers : goal.returns-then-vectors-count-clause-gathers
returns-then-vectors-count-clause-gathers t c =
    gathers_at c.in-Pair.ensures.2 (few_vectors (omega (arith, c.if-vectors-count.true, c.parts-count.ensures, length-map c.args.vectors.now (λ v. v.now))))

pub returns-in_err-gather_value-in-Pair-clause-gathers : goal.returns-in_err-gather_value-in-Pair-clause-gathers
returns-in_err-gather_value-in-Pair-clause-gathers t c =
    gathers_at c.in-Pair.ensures.2 (pair_gathers _ c.parts-count.ensures c.in_err-gather_value-in-Pair.ensures.gathers (inl refl))

pub returns-in_ok-gather_value-in-Pair-clause-gathers : goal.returns-in_ok-gather_value-in-Pair-clause-gathers
returns-in_ok-gather_value-in-Pair-clause-gathers t c =
    gathers_at c.in-Pair.ensures.2 (pair_gathers _ c.parts-count.ensures c.in_ok-gather_value-in-Pair.ensures.gathers
    (inr (c.gather_value-in-Pair.new.vectors, refl, omega arith, c.gather_value-in-Pair.ensures.gathers)))

pub returns-in_err-entry-in-List-clause-gathers : goal.returns-in_err-entry-in-List-clause-gathers
returns-in_err-entry-in-List-clause-gathers t c = gathers_at c.in-List.ensures.1 (list_stops c.in_err-entry-in-List.ensures.entry)

pub returns-in_err-count-in-List-clause-gathers : goal.returns-in_err-count-in-List-clause-gathers
returns-in_err-count-in-List-clause-gathers t c =
    gathers_at c.in-List.ensures.1 (list_uncounted c.in_ok-entry-in-List.ensures.entry c.in_err-count-in-List.ensures)

pub returns-in_err-gather_value-in-List-clause-gathers : goal.returns-in_err-gather_value-in-List-clause-gathers
returns-in_err-gather_value-in-List-clause-gathers t c = gathers_at c.in-List.ensures.1 (list_gathers _ _ c.in_ok-entry-in-List.ensures.entry
    c.in_ok-entry-in-List.ensures.rest c.in_ok-count-in-List.ensures c.in_ok-put-in-List.ensures.puts.1
    (c.loop.invariant.rest _ _ _ (gathers_more (c.in_ok-count-in-List.count - (c.loop.counter + 1)) (omega arith) c.in_err-gather_value-in-List.ensures.gathers (inl refl))))

pub loop-preserved : goal.loop-preserved
loop-preserved t c = record {
  same_reference = search rules;
  rest = λ r vs w all. c.loop.invariant.rest r vs w (gathers_more _ (omega arith) c.in_ok-gather_value-in-List.ensures.gathers (inr all));
}

pub returns-after-loop-clause-gathers : goal.returns-after-loop-clause-gathers
returns-after-loop-clause-gathers t c = gathers_at c.in-List.ensures.1 (list_gathers _ _ c.in_ok-entry-in-List.ensures.entry
    c.in_ok-entry-in-List.ensures.rest c.in_ok-count-in-List.ensures c.in_ok-put-in-List.ensures.puts.1 (c.loop.invariant.rest _ _ _ (gathers_none (omega arith))))
