-- The ranks of signs, and a word that is of no fold.
use Rattle.std.proofs.Common.{◌≡◌, ℕ}
use Rattle.tokens.specs.declared.kind.Kind.{Kind}
use Rattle.grammar.specs.Tree.{Fold, scan, reduce}
use Rattle.grammar.specs.Grammar.{folder}
use Rattle.reader.specs.declared.operators.Rank.{Rank}
use Rattle.reader.specs.declared.operators.Rank.TheVariants.{Sums, Products}

-- sums are of products
abbrev pub level : Rank → ℕ
level Sums = 2
level Products = 0

pub no_fold : {k : Kind} → (k ≡ Kind.Scan → ⊥) → (k ≡ Kind.Reduce → ⊥) → (f : Fold) → k ≡ folder f → ⊥
no_fold a b scan e = a e
no_fold a b reduce e = b e
