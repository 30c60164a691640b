use Rattle.std.proofs.Common.{sym, ◌∙◌}
use Rattle.monoid.specs.IntsLemmas.{same_int, or_value}
use Rattle.monoid.proofs.arithmetic.IntBitOr.bitor.Goals as goal

pub returns : goal.returns
returns c = same_int _ _ (c.new.ensures ∙ sym (or_value c.args.self c.args.other))
