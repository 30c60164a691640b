use Rattle.std.proofs.Common.{◌∙◌}
use Rattle.std.proofs.lemmas.Int.{wrapping_add_is}
use Rattle.monoid.specs.Ints.{width}
use Rattle.monoid.specs.IntsLemmas.{same_int, fits}
use Rattle.monoid.proofs.int.Int.wrapping_add.Goals as goal

pub returns : goal.returns
returns c = same_int _ _ (c.new.ensures ∙ wrapping_add_is width c.args.self.value c.args.other.value (fits c.args.self) (fits c.args.other))
