-- What a type's shape says of it.
use Rattle.std.proofs.Common.{◌≡◌, ◌⊎◌, sym, subst, inl, inr}
use Rattle.types.specs.declared.type_ref.TypeRef.{TypeRef}
use Rattle.types.specs.declared.type_ref.Shape.{Shape}
use Rattle.types.specs.declared.type_ref.Shape.TheVariants as shape
use Rattle.types.specs.Types.{Ty, int, bool}
use Rattle.types.specs.TypeRefs.{meant, Shaped}

-- the arm of ints and bools
pub int_or_bool : (P : Ty → Type 0) (t : TypeRef) (s : Shape) → Shaped t s → (s ≡ shape.Int) ⊎ (s ≡ shape.Bool) → P int → P bool → P (meant t)
int_or_bool P t s shaped (inl e) p q = subst P (sym (subst (Shaped t) e shaped)) p
int_or_bool P t s shaped (inr e) p q = subst P (sym (subst (Shaped t) e shaped)) q
