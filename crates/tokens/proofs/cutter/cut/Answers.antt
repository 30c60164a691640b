use Rattle.std.proofs.Common.{◌≡◌, length, vec_items, sym, refl, ap, ◌∙◌, subst, arith}
use Rattle.tokens.specs.Cutting.{Cuts}
use Rattle.tokens.proofs.Cutting.{Open, next_on, grown, closed, goes_some, goes_few, goes_stopped, goes_unstopped, goes_places}
use Rattle.tokens.proofs.Unique.{cuts_same}
use Rattle.tokens.proofs.cutter.cut.Goals as goal

pub loop-token-init : goal.loop-token-init
loop-token-init c =
    let none = c.requires.empty in
    (subst (λ xs. Open c.args.text.now xs 0) (sym none) (λ ts g. g), omega arith, omega (arith, ap length none), refl, c.requires.room)

pub loop-token-preserved : goal.loop-token-preserved
loop-token-preserved c =
    let h = c.loop-token.invariant in
    let next = c.next-token.ensures in
    let plain = sym c.if-is_stop.ensures in
    let on = next_on next plain in
    let push = c.push_reserved.ensures in
    let count : c.len.result ≡ length (vec_items c.loop-token.out) = omega (arith, c.len.ensures, c.loop-token.out.ok.0) in
    (grown _ _ _ _ _ _ _ h.0 c.run_end-at.ensures next plain count push.items, on.2, omega (arith, on.0, count, push.len, c.push_reserved.new.self.ok.0, c.len.ensures), push.capacity ∙ h.3, omega (arith, push.capacity, h.4))

pub loop-token-smaller : goal.loop-token-smaller
loop-token-smaller c =
    let on = next_on c.next-token.ensures (sym c.if-is_stop.ensures) in
    omega (arith, on.1, on.2, c.run_end-at.ensures.from)

pub returns-then-is_stop : goal.returns-then-is_stop
returns-then-is_stop c =
    let h = c.loop-token.invariant in
    let push = c.push_reserved.ensures in
    let count : c.len.result ≡ length (vec_items c.loop-token.out) = omega (arith, c.len.ensures, c.loop-token.out.ok.0) in
    let cuts : Cuts c.args.text.now (vec_items c.push_reserved.new.self) = closed _ _ _ _ _ _ _ h.0 c.run_end-at.ensures c.next-token.ensures (sym c.if-is_stop.ensures) count push.items in
    record { cuts = cuts; only = λ ts d. cuts_same _ _ _ d cuts; some = goes_some cuts; few = omega (arith, goes_few cuts (omega arith)); stopped = goes_stopped cuts; unstopped = goes_unstopped cuts; places = goes_places cuts; capacity = push.capacity ∙ h.3 }
