use Rattle.texts.proofs.Bools.{whole_word, no_word}
use Rattle.std.proofs.Common.{true, false}
use Rattle.texts.proofs.bool_text.read_bool.Goals as goal

pub returns-then-yes-eq4 : goal.returns-then-yes-eq4
returns-then-yes-eq4 c = whole_word c.args.text.now true _ c.common-yes.ensures c.if-yes-eq4.true

pub returns-then-no-eq5 : goal.returns-then-no-eq5
returns-then-no-eq5 c = whole_word c.args.text.now false _ c.common-no.ensures c.if-no-eq5.true

pub returns : goal.returns
returns c = no_word c.args.text.now _ _ _ c.common-yes.ensures c.common-no.ensures c.if-yes-eq4.false c.if-no-eq5.false c.max.ensures
