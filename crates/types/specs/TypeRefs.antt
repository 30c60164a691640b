-- Types of a table, by references.
use Rattle.std.specs.Prelude.{◌≡◌, ◌<◌}
use Rattle.types.specs.declared.type_ref.TypeRef.{TypeRef}
use Rattle.types.specs.declared.type_ref.Shape.{Shape}
use Rattle.types.specs.declared.type_ref.Shape.TheVariants as shape
use Rattle.types.specs.Types.{Ty, int, bool, pair, list}
use Rattle.types.specs.Table.{type_of}

abbrev pub meant : TypeRef → Ty
meant t = type_of t.table.now t.code

-- the shape says what the type is, by types of smaller codes
abbrev pub Shaped : TypeRef → Shape → Type 0
Shaped t shape.Int = meant t ≡ int
Shaped t shape.Bool = meant t ≡ bool
Shaped t (shape.Pair a b) = (a.code < t.code) × (b.code < t.code) × (meant t ≡ pair (meant a) (meant b))
Shaped t (shape.List a) = (a.code < t.code) × (meant t ≡ list (meant a))
