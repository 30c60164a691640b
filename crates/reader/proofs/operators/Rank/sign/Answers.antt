use Rattle.grammar.specs.Grammar.{adds, subtracts, multiplies, divides, remains}
use Rattle.reader.proofs.operators.Rank.sign.Goals as goal

pub returns-in-Sums-Plus : goal.returns-in-Sums-Plus
returns-in-Sums-Plus c = (rw c.in-Sums-Plus.is-0 adds, c.in-Sums-Plus.is-1)

pub returns-in-Sums-Minus : goal.returns-in-Sums-Minus
returns-in-Sums-Minus c = (rw c.in-Sums-Minus.is-0 subtracts, c.in-Sums-Minus.is-1)

pub returns-in-Products-Times : goal.returns-in-Products-Times
returns-in-Products-Times c = (rw c.in-Products-Times.is-0 multiplies, c.in-Products-Times.is-1)

pub returns-in-Products-Divide : goal.returns-in-Products-Divide
returns-in-Products-Divide c = (rw c.in-Products-Divide.is-0 divides, c.in-Products-Divide.is-1)

pub returns-in-Products-Remainder : goal.returns-in-Products-Remainder
returns-in-Products-Remainder c = (rw c.in-Products-Remainder.is-0 remains, c.in-Products-Remainder.is-1)
