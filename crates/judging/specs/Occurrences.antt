-- The typed occurrences of an expression and of a program, in the order of evaluation.
use Rattle.std.specs.Prelude.{ℕ, suc, List, [], ◌∷◌, ◌++◌}
use Rattle.grammar.specs.declared.occurrence.Unary.TheVariants.{Fst, Snd, Len, Range, Flat}
use Rattle.types.specs.Types.{Ty, int, bool, pair, list}
use Rattle.lang.specs.Expr.{Scalar, number, truth, answers, joined}
use Rattle.lang.specs.Expr.{Op, infix_op, mkpair, first, second, bracket, hollow, index, len_op, range_op, flat_op, part_op, scan_op, reduce_op}
use Rattle.lang.specs.Expr.{Expr, Args, con, group, var, bind, prim, ite, each, over, nil, more}
use Rattle.lang.specs.Check.{Checked}
use Rattle.judging.specs.Notes.{index_of}
use Rattle.judging.specs.Acts.{Act, TypedOccurrence, at_place, placeless}

abbrev pub acts : Act → ℕ → Ty → List TypedOccurrence
acts a p t = at_place a p t ∷ []

-- a written type: its parts, then itself
abbrev pub type_occs : Ty → List TypedOccurrence
type_occs int = placeless Act.type_int int ∷ []
type_occs bool = placeless Act.type_bool bool ∷ []
type_occs (pair a b) = type_occs a ++ type_occs b ++ (placeless Act.type_pair (pair a b) ∷ [])
type_occs (list a) = type_occs a ++ (placeless Act.type_list (list a) ∷ [])

abbrev pub con_act : {t : Ty} → Scalar t → Act
con_act (number k) = Act.number k
con_act (truth b) = Act.truth b

-- a primitive at its place, after its operands
abbrev pub op_occs : {ts : List Ty} {t : Ty} → ℕ → Op ts t → List TypedOccurrence
op_occs p (infix_op o) = acts (Act.operate o) p (answers o)
op_occs p (mkpair {a = a} {b = b}) = acts Act.pair p (pair a b)
op_occs p (first {a = a}) = acts (Act.apply Fst) p a
op_occs p (second {b = b}) = acts (Act.apply Snd) p b
op_occs p (bracket k a) = acts (Act.bracket (suc k)) p (list a)
op_occs p (hollow a) = type_occs a ++ acts Act.empty p (list a)
op_occs p (index {a = a}) = acts Act.index p a
op_occs p len_op = acts (Act.apply Len) p int
op_occs p range_op = acts (Act.apply Range) p (list int)
op_occs p (flat_op {a = a}) = acts (Act.apply Flat) p (list a)
op_occs p (part_op {a = a}) = acts Act.part p (list (list a))
op_occs p (scan_op o) = acts (Act.scan o) p (list (joined o))
op_occs p (reduce_op o) = acts (Act.reduce o) p (joined o)

unfoldable mutual
  pub typed_occs : {Γ : List Ty} {t : Ty} → Expr Γ t → List TypedOccurrence
  typed_occs (con {t = t} p k) = acts (con_act k) p t
  typed_occs (group {t = t} p e) = typed_occs e ++ acts Act.group p t
  typed_occs (var {t = t} p x) = acts (Act.variable (index_of x)) p t
  typed_occs (bind {t = t} {u = u} p e b) = typed_occs e ++ acts Act.bind p t ++ typed_occs b ++ acts Act.let_end p u
  typed_occs (prim p o es) = typed_occs_of es ++ op_occs p o
  typed_occs (ite {t = t} p c a b) =
      typed_occs c ++ acts Act.if_fork p bool ++ typed_occs a ++ acts Act.if_else p t ++ typed_occs b ++ acts Act.if_join p t
  typed_occs (each {a = a} {b = u} p s f b) =
      typed_occs s ++ acts Act.each_fork p (list a) ++ typed_occs f ++ acts Act.each_filter p bool ++ typed_occs b ++ acts Act.each_join p (list u)
  typed_occs (over {a = a} {b = u} p s b) = typed_occs s ++ acts Act.each_fork p (list a) ++ typed_occs b ++ acts Act.each_join p (list u)

  pub typed_occs_of : {Γ ts : List Ty} → Args Γ ts → List TypedOccurrence
  typed_occs_of nil = []
  typed_occs_of (more e es) = typed_occs e ++ typed_occs_of es

-- of a program: the parameter's type and the parameter, the result's type and the result, the body
abbrev pub program_occs : Checked → List TypedOccurrence
program_occs c =
    type_occs c.parameter ++ (placeless Act.parameter c.parameter ∷ []) ++
    type_occs c.result ++ (placeless Act.result c.result ∷ []) ++ typed_occs c.body
