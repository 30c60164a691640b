use Rattle.std.proofs.Common.{rules}
use Rattle.rules.specs.Arithmetic.{int_quotient}
use Rattle.rules.proofs.Division.{divided_is, quotient_is}
use Rattle.rules.proofs.arithmetic.quotient.Goals as goal

pub returns : goal.returns
returns c =
    divided_is int_quotient c.args.a c.args.b _ _ c.in_ok-by.ensures (quotient_is c.args.a c.in_ok-by.by c.new.result c.wrapping_div.result c.new.ensures c.wrapping_div.ensures (search rules))
