use Rattle.std.proofs.Common.{◌∙◌, length-set}
use Rattle.values.specs.Texts.{int_text}
use Rattle.values.proofs.Printing.{begun, next_fits, next_written, last_fits, all_written}
use Rattle.values.proofs.print.write_ints.Goals as goal

pub loop-x-init : goal.loop-x-init
loop-x-init c = begun int_text _ _ c.requires

pub write_element-at-requires : goal.write_element-at-requires
write_element-at-requires c =
    let room = c.loop-x.auto.out ∙ length-set c.args.out.now 0 91 ∙ c.requires in
    next_fits int_text _ _ _ c.in-Some.ensures.cases.0 _ _ _ c.loop-x.invariant room _ c.loop-x-test.true c.x-item.is

pub loop-x-preserved : goal.loop-x-preserved
loop-x-preserved c =
    let room = c.loop-x.auto.out ∙ length-set c.args.out.now 0 91 ∙ c.requires in
    next_written int_text _ _ _ c.in-Some.ensures.cases.0 _ _ _ c.loop-x.invariant room _ c.loop-x-test.true c.x-item.is _ _ c.write_element-at.ensures.end c.write_element-at.auto.out c.write_element-at.ensures.text

pub write_element-requires : goal.write_element-requires
write_element-requires c =
    let room = c.loop-x.auto.out ∙ length-set c.args.out.now 0 91 ∙ c.requires in
    last_fits int_text _ _ _ c.in-Some.ensures.cases.0 _ _ _ c.loop-x.invariant room c.loop-x-test.false

pub returns : goal.returns
returns c =
    let room = c.loop-x.auto.out ∙ length-set c.args.out.now 0 91 ∙ c.requires in
    all_written int_text _ _ _ c.in-Some.ensures.cases.0 _ _ _ c.loop-x.invariant room c.loop-x-test.false _ _ c.write_element.ensures.end c.write_element.auto.out c.write_element.ensures.text
