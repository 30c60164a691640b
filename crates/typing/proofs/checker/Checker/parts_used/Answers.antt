use Rattle.std.proofs.Common.{map, reverse, length, drop, vec_items, refl, ap, ◌∙◌, arith}
use Rattle.judging.specs.Judging.{parts_used}
use Rattle.typing.specs.Codes.{binding_of}
use Rattle.typing.specs.Holding.{held, known}
use Rattle.typing.proofs.Weighing.{flags_are, flags_long}
use Rattle.typing.proofs.checker.Checker.parts_used.Goals as goal

pub parts_flagged-requires : goal.parts_flagged-requires
parts_flagged-requires c =
    let flags = c.as_slice-3.ensures.value ∙ c.replay.ensures.items ∙ flags_are (vec_items c.args.self.now.uses) c.as_slice.result.now c.last_fork-depth.result.start c.last_fork-depth.result.depth _ c.as_slice.ensures.value c.fill.ensures.items in
    omega (arith, ap length flags ∙ flags_long (vec_items c.args.self.now.uses) c.last_fork-depth.result.start c.last_fork-depth.result.depth, c.last_fork-depth.ensures.depth)

pub returns : goal.returns
unfolding held
returns c =
    let flags = c.as_slice-3.ensures.value ∙ c.replay.ensures.items ∙ flags_are (vec_items c.args.self.now.uses) c.as_slice.result.now c.last_fork-depth.result.start c.last_fork-depth.result.depth _ c.as_slice.ensures.value c.fill.ensures.items in
    let long = ap length flags ∙ flags_long (vec_items c.args.self.now.uses) c.last_fork-depth.result.start c.last_fork-depth.result.depth in
    record { is = c.parts_flagged.ensures.is ∙ ap (λ bs. parts_used (drop c.args.skip (map (binding_of (known c.args.self.now)) (reverse bs))) c.as_slice-3.result.now) c.as_slice-2.ensures.value ∙ ap (parts_used (drop c.args.skip (held c.args.self.now).scope)) (flags ∙ ap (λ f. f.used) c.last_fork-depth.ensures.is); small = omega (arith, c.parts_flagged.ensures.small, long, c.last_fork-depth.ensures.depth); holds = refl }
