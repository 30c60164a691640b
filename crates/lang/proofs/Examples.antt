-- The examples compute.
use Rattle.std.proofs.Common.{refl}
use Rattle.lang.specs.Expr.{free}
use Rattle.lang.specs.Weight.{weight}
use Rattle.lang.specs.Written.{written}
use Rattle.lang.specs.Elaborate.{elaborate}
use Rattle.lang.specs.Check.{check}
use Rattle.lang.specs.Examples.{Examples}

pub examples : Examples
unfolding check elaborate written weight free
examples = record { accepts = refl; inner_counts = refl; condition_first = refl; body_before_filter = refl; filter_first = refl; header_first = refl; declared_other = refl; too_many = refl }
