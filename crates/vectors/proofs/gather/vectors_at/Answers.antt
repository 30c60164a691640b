use Rattle.std.proofs.Common.{◌≡◌, ◌≤◌, List, [], ◌∷◌, ◌++◌, map, take, sym, ap, ◌∙◌, ap₂, arith, rules, inr}
use Rattle.std.proofs.lemmas.List.{map-append, take_all}
use Rattle.monoid.specs.declared.int.Int.{Int}
use Rattle.lang.specs.Values.{sum_by}
use Rattle.vectors.specs.Placing.{extent, entries}
use Rattle.vectors.specs.Gathering.{left}
use Rattle.vectors.proofs.Rooms.{nowhere, found_more, sum_more, sum_within, lengths_within}
use Rattle.vectors.proofs.gather.vectors_at.Goals as goal

pub returns-in_err-room : goal.returns-in_err-room
returns-in_err-room c = rw c.from_residual.ensures (inr (omega (
  arith,
  c.in_err-room.ensures,
  c.loop-span.invariant.fits,
  c.extent.ensures,
  sum_more extent c.args.spans.now c.loop-span.span-index nowhere c.loop-span-test.true,
  sum_within extent c.args.spans.now c.loop-span.span-index nowhere c.loop-span-test.true,
)))

pub loop-span-preserved : goal.loop-span-preserved
loop-span-preserved c =
    let more = found_more c.args.ints.now c.args.spans.now c.loop-span.span-index nowhere c.loop-span-test.true in
    let pushed : c.try_push.new.self.items ≡ c.loop-span.vectors.items ++ (c.entries-vector.result ∷ []) = search rules in record {
      found = ap left pushed ∙ map-append _ c.loop-span.vectors.items (c.entries-vector.result ∷ [])
          ∙ ap₂ (λ (vs : List (List Int)) (v : List Int). vs ++ (v ∷ [])) c.loop-span.invariant.found c.entries-vector.ensures ∙ sym more;
      fits = omega (
        arith,
        c.in_ok-room.ensures,
        c.loop-span.invariant.fits,
        c.extent.ensures,
        sum_more extent c.args.spans.now c.loop-span.span-index nowhere c.loop-span-test.true,
      );
    }

pub returns : goal.returns
returns c =
    let whole : take c.loop-span.span-index c.args.spans.now ≡ c.args.spans.now = take_all _ c.args.spans.now (omega (arith, c.loop-span-test.false)) in
    let fits : sum_by extent c.args.spans.now ≤ c.args.room = omega (arith, c.loop-span.invariant.fits, ap (sum_by extent) whole) in (
      c.loop-span.invariant.found ∙ ap (map (entries c.args.ints.now)) whole,
      fits,
      omega (arith, fits, lengths_within c.args.ints.now c.args.spans.now),
    )
