-- The types of the language, and how many parts each has.
use Rattle.std.specs.Prelude.{ℕ, ◌+◌}
use Rattle.std.proofs.Math.Option.{Option, none, some}

pub data Ty : Type 0 where
  int : Ty
  bool : Ty
  pair : Ty → Ty → Ty
  list : Ty → Ty

-- ints and bools have one part, a pair the parts of both, a list one more than its elements
abbrev pub parts : Ty → ℕ
parts int = 1
parts bool = 1
parts (pair a b) = parts a + parts b
parts (list a) = 1 + parts a

abbrev pub same_pair : {a b c d : Ty} → Option (Id Ty a c) → Option (Id Ty b d) → Option (Id Ty (pair a b) (pair c d))
same_pair none y = none
same_pair (some x) none = none
same_pair (some refl) (some refl) = some refl

abbrev pub same_list : {a c : Ty} → Option (Id Ty a c) → Option (Id Ty (list a) (list c))
same_list none = none
same_list (some refl) = some refl

-- whether two types are the same, as an identity that computes
abbrev pub same : (a b : Ty) → Option (Id Ty a b)
same int int = some refl
same int bool = none
same int (pair c d) = none
same int (list c) = none
same bool int = none
same bool bool = some refl
same bool (pair c d) = none
same bool (list c) = none
same (pair a b) int = none
same (pair a b) bool = none
same (pair a b) (pair c d) = same_pair (same a c) (same b d)
same (pair a b) (list c) = none
same (list a) int = none
same (list a) bool = none
same (list a) (pair c d) = none
same (list a) (list c) = same_list (same a c)

abbrev pub NotList : Ty → Type 0
NotList int = Unit {0}
NotList bool = Unit {0}
NotList (pair a b) = Unit {0}
NotList (list a) = ⊥

abbrev pub NotPair : Ty → Type 0
NotPair int = Unit {0}
NotPair bool = Unit {0}
NotPair (pair a b) = ⊥
NotPair (list a) = Unit {0}
