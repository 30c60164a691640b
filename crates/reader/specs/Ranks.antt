-- The ranks of signs, as the grammar has them, and the uses of an operation of joining.
use Rattle.grammar.specs.Grammar.{Chain, sums, products}
use Rattle.grammar.specs.Tree.{Fold as Folded, scan, reduce}
use Rattle.reader.specs.declared.operators.Rank.{Rank}
use Rattle.reader.specs.declared.operators.Rank.TheVariants.{Sums, Products}
use Rattle.reader.specs.declared.operators.Fold.{Fold}
use Rattle.reader.specs.declared.operators.Fold.TheVariants.{Scan, Reduce}

abbrev pub chain_of : Rank → Chain
chain_of Sums = sums
chain_of Products = products

abbrev pub fold_of : Fold → Folded
fold_of Scan = scan
fold_of Reduce = reduce
