use Rattle.std.proofs.Common.{◌∙◌}
use Rattle.std.proofs.lemmas.Int.{wrapping_sub_is}
use Rattle.monoid.specs.Ints.{width}
use Rattle.monoid.specs.IntsLemmas.{same_int, fits}
use Rattle.rules.proofs.arithmetic.difference.Goals as goal

pub returns : goal.returns
returns c = same_int _ _ (c.new.ensures ∙ wrapping_sub_is width c.args.a.value c.args.b.value (fits c.args.a) (fits c.args.b))
