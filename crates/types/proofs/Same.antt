-- Whether two types are the same, by the identity that `same` finds.
use mathlib.Core.Path as path
use Rattle.std.proofs.Common.{◌≡◌, Bool, true, false, Decides, subst}
use mathlib.Core.Option.{Option, none, some}
use Rattle.std.proofs.lemmas.Bool.{false≢true}
use Rattle.types.specs.Types.{Ty, int, bool, pair, list, same}
use Rattle.types.specs.Table.{Agrees}

pub same_self : (t : Ty) → same t t ≡ some refl
same_self int = path.refl
same_self bool = path.refl
same_self (pair a b) = rw (same_self a, same_self b)
same_self (list a) = rw (same_self a)

pub same_path : {t u : Ty} → Id Ty t u → t ≡ u
same_path refl = path.refl

same_none : {t u : Ty} (o : Option (Id Ty t u)) → (t ≡ u → ⊥) → o ≡ none
same_none none apart = path.refl
same_none (some e) apart = absurd (apart (same_path e))

pub agrees : (r : Bool) (t u : Ty) → Decides r (t ≡ u) → Agrees r t u
agrees true t u h = subst (λ x. (e : Id Ty t x) × (same t x ≡ some e)) (h.0 path.refl) (refl, same_self t)
agrees false t u h = same_none (same t u) (λ e. false≢true (h.1 e))
