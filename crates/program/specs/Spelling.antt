-- How a type is written.
use Rattle.std.specs.Prelude.{ℕ, List, ◌++◌, codes}
use Rattle.types.specs.Types.{Ty, int, bool, pair, list}

abbrev pub spelled : Ty → List ℕ
spelled int = codes "int"
spelled bool = codes "bool"
spelled (pair a b) = codes "(" ++ spelled a ++ codes "," ++ spelled b ++ codes ")"
spelled (list a) = codes "[" ++ spelled a ++ codes "]"
