-- A text is that of a program with a given tree; bytes are those of a value.
use Rattle.std.proofs.Common.{◌≡◌, ℕ, suc, List, length}
use mathlib.Core.Option.{Option, some}
use Rattle.grammar.specs.Tree.{Tree}
use Rattle.lang.specs.Scope.{same_bytes}
use Rattle.lang.proofs.Names.{bytes_are}
use Rattle.program.specs.Loading.{Spells}
use Rattle.worked.proofs.Tests.{and_then, true?, most?}
use Rattle.worked.proofs.Tokens.{cut?}
use Rattle.worked.proofs.Trees.{program?}

abbrev pub spells? : (text : List ℕ) (tree : Tree) → Option (Spells text tree)
spells? text tree =
    and_then (most? (length text) 4096) λ s. and_then (cut? (suc (length text)) text 0 0) λ g. and_then (program? g.tokens tree) λ w.
    some (record { short = s; tokens = g.tokens; cuts = g.goes; program = w.program; is = w.is })

abbrev pub bytes? : (a b : List ℕ) → Option (a ≡ b)
bytes? a b = and_then (true? (same_bytes a b)) λ e. some (bytes_are a b e)
