-- The operations that scan and reduce join elements with.
use Rattle.std.specs.Prelude.{false, ◌||◌}
use Rattle.monoid.specs.declared.int.Int.{Int}
use Rattle.monoid.specs.Ints.{int_zero, int_one, int_least, int_sum, int_product, int_or, larger, later}
use Rattle.monoid.specs.Affine.{affine_identity, affine_then}
use Rattle.monoid.specs.Laws.{Laws}
use Rattle.grammar.specs.declared.occurrence.Operation.{Operation}
use Rattle.grammar.specs.declared.occurrence.Operation.TheVariants.{Sum, Max, Or, Lin, House}
use Rattle.lang.specs.Values.{Val}
use Rattle.lang.specs.Expr.{joined}

-- the join of none, and the join of two
pub record Joining (M : Type 0) : Type 0 where
  pub unit : M
  pub op : M → M → M

-- the house's own: any monoid on ints
abbrev pub HouseJoin : Type 0
HouseJoin = Joining Int

abbrev pub HouseLaws : HouseJoin → Type 0
HouseLaws H = Laws H.unit H.op

-- two of them: the latest result that is not 0, and the union of bits
abbrev pub latest : HouseJoin
latest = record { unit = int_zero; op = later }

abbrev pub bits : HouseJoin
bits = record { unit = int_zero; op = int_or }

abbrev pub joining : HouseJoin → (o : Operation) → Joining (Val (joined o))
joining H Sum = record { unit = int_zero; op = int_sum }
joining H Max = record { unit = int_least; op = larger }
joining H Or = record { unit = false; op = ◌||◌ }
joining H Lin = record { unit = affine_identity int_zero int_one; op = affine_then int_sum int_product }
joining H House = H
