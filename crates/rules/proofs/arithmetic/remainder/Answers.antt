use Rattle.std.proofs.Common.{rules}
use Rattle.rules.specs.Arithmetic.{int_remainder}
use Rattle.rules.proofs.Division.{divided_is, remainder_is}
use Rattle.rules.proofs.arithmetic.remainder.Goals as goal

pub returns : goal.returns
returns c =
    divided_is int_remainder c.args.a c.args.b _ _ c.in_ok-by.ensures (remainder_is c.args.a c.in_ok-by.by c.new.result c.wrapping_rem.result c.new.ensures c.wrapping_rem.ensures (search rules))
