-- What is noted of each occurrence of an expression: the type that stands uppermost there, and of a variable which one it is.
use Rattle.std.specs.Prelude.{ℕ, zero, suc, List, [], ◌∷◌, ◌++◌}
use Rattle.types.specs.Types.{Ty, int, bool, pair, list}
use Rattle.lang.specs.Expr.{Var, here, there, Op, infix_op, mkpair, first, second, bracket, hollow, index, len_op, range_op, flat_op, part_op, scan_op, reduce_op}
use Rattle.lang.specs.Expr.{Expr, Args, con, group, var, bind, prim, ite, each, over, nil, more}

pub record Note : Type 0 where
  pub type : Ty
  pub index : ℕ

abbrev pub note : Ty → List Note
note t = record { type = t; index = 0 } ∷ []

-- how many variables stand inside this one
abbrev pub index_of : {Γ : List Ty} {t : Ty} → Var Γ t → ℕ
index_of here = zero
index_of (there x) = suc (index_of x)

-- a written type: its parts, then itself
abbrev pub type_notes : Ty → List Note
type_notes int = note int
type_notes bool = note bool
type_notes (pair a b) = type_notes a ++ type_notes b ++ note (pair a b)
type_notes (list a) = type_notes a ++ note (list a)

-- what is written in a primitive: the type of an empty list
abbrev pub written_in : {ts : List Ty} {t : Ty} → Op ts t → List Note
written_in (infix_op o) = []
written_in mkpair = []
written_in first = []
written_in second = []
written_in (bracket k a) = []
written_in (hollow a) = type_notes a
written_in index = []
written_in len_op = []
written_in range_op = []
written_in flat_op = []
written_in part_op = []
written_in (scan_op o) = []
written_in (reduce_op o) = []

-- in the order of evaluation
unfoldable mutual
  pub notes : {Γ : List Ty} {t : Ty} → Expr Γ t → List Note
  notes (con {t = t} p k) = note t
  notes (group {t = t} p e) = notes e ++ note t
  notes (var {t = t} p x) = record { type = t; index = index_of x } ∷ []
  notes (bind {t = t} {u = u} p e b) = notes e ++ note t ++ notes b ++ note u
  notes (prim {t = t} p o es) = notes_of es ++ written_in o ++ note t
  notes (ite {t = t} p c a b) = notes c ++ note bool ++ notes a ++ note t ++ notes b ++ note t
  notes (each {a = a} {b = u} p s f b) = notes s ++ note (list a) ++ notes f ++ note bool ++ notes b ++ note (list u)
  notes (over {a = a} {b = u} p s b) = notes s ++ note (list a) ++ notes b ++ note (list u)

  pub notes_of : {Γ ts : List Ty} → Args Γ ts → List Note
  notes_of nil = []
  notes_of (more e es) = notes e ++ notes_of es
