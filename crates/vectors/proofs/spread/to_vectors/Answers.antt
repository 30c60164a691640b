use Rattle.std.proofs.Common.{◌≡◌, inr, length, ap, refl, arith, rules}
use Rattle.types.specs.Types.{parts}
use Rattle.types.specs.TypeRefs.{meant}
use Rattle.vectors.proofs.Sums.{celled}
use Rattle.vectors.proofs.Placing.{spread_none, spread_more, spread_stops, spread_all}
use Rattle.vectors.proofs.spread.to_vectors.Goals as goal

pub returns-then-out-cells : goal.returns-then-out-cells
returns-then-out-cells c v fits is = (inr (omega (arith, c.if-out-cells.true, ap length is, celled (meant c.args.t) v)), refl)

pub loop-k-init : goal.loop-k-init
loop-k-init c = record { same_reference = refl; number = search rules; spread = rw c.new-layout.ensures.spans spread_none }

pub loop-k-preserved : goal.loop-k-preserved
loop-k-preserved c = record {
  same_reference = search rules;
  number = search rules;
  spread = rw c.push.ensures.spans (spread_more c.loop-k.invariant.spread (omega (arith, c.loop-k-test.true, c.parts-count.ensures)) c.in_ok-walk_value.ensures.walks);
}

pub returns-in_err-walk_value : goal.returns-in_err-walk_value
returns-in_err-walk_value c v fits is = absurd (spread_stops c.loop-k.invariant.spread (omega (arith, c.loop-k-test.true, c.parts-count.ensures))
    c.in_err-walk_value.ensures.walks (omega arith) c.if-out-cells.false refl v fits is)

pub returns : goal.returns
returns c v fits is =
    let number : c.loop-k.layout.count ≡ parts (meant c.args.t) =
    omega (arith, c.loop-k.invariant.number, c.loop-k.auto.k-end, c.loop-k-test.false, c.parts-count.ensures) in
    let all = spread_all c.loop-k.invariant.spread (omega (arith, c.loop-k-test.false, c.parts-count.ensures)) (omega arith) c.if-out-cells.false (search rules) v fits is in
    (all.0, all.1, number, all.2)
