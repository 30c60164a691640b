-- The worked runs compute.
use Rattle.std.proofs.Common.{refl}
use Rattle.std.specs.Int.{int_wrap}
use Rattle.lang.specs.Expr.{free}
use Rattle.lang.specs.Weight.{weight}
use Rattle.lang.specs.Written.{written}
use Rattle.lang.specs.Elaborate.{elaborate}
use Rattle.lang.specs.Check.{check}
use Rattle.rules.specs.Direct.{direct}
use Rattle.rules.specs.Batch.{batch}
use Rattle.rules.specs.Table.{no_row, and_row, TableLaw}

pub table_law : TableLaw
unfolding check elaborate written weight free direct batch int_wrap
table_law =
    and_row (record { checks = refl; directs = refl; vectors = refl }) (
    and_row (record { checks = refl; directs = refl; vectors = refl }) (
    and_row (record { checks = refl; directs = refl; vectors = refl }) (
    and_row (record { checks = refl; directs = refl; vectors = refl }) (
    and_row (record { checks = refl; directs = refl; vectors = refl }) (
    and_row (record { checks = refl; directs = refl; vectors = refl }) (
    and_row (record { checks = refl; directs = refl; vectors = refl }) (
    and_row (record { checks = refl; directs = refl; vectors = refl }) (
    and_row (record { checks = refl; directs = refl; vectors = refl }) (
    and_row (record { checks = refl; directs = refl; vectors = refl }) (
    and_row (record { checks = refl; directs = refl; vectors = refl }) (
    and_row (record { checks = refl; directs = refl; vectors = refl }) (
    and_row (record { checks = refl; directs = refl; vectors = refl }) (
    and_row (record { checks = refl; directs = refl; vectors = refl }) (
    and_row (record { checks = refl; directs = refl; vectors = refl }) (
    and_row (record { checks = refl; directs = refl; vectors = refl }) (
    and_row (record { checks = refl; directs = refl; vectors = refl }) (
    and_row (record { checks = refl; directs = refl; vectors = refl }) (
    no_row))))))))))))))))))
