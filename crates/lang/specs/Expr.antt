-- Expressions with their types: an expression of type t over variables of the types Γ, innermost first.
use Rattle.std.specs.Prelude.{ℕ, zero, suc, Bool, true, false, ◌||◌, List, [], ◌∷◌}
use Rattle.monoid.specs.declared.int.Int.{Int}
use Rattle.types.specs.Types.{Ty, int, bool, pair, list}
use Rattle.grammar.specs.declared.occurrence.Infix.{Infix}
use Rattle.grammar.specs.declared.occurrence.Infix.TheVariants.{Add, Subtract, Multiply, Divide, Remainder, Same, Less}
use Rattle.grammar.specs.declared.occurrence.Operation.{Operation}
use Rattle.grammar.specs.declared.occurrence.Operation.TheVariants.{Sum, Max, Or, Lin, House}
use Rattle.lang.specs.Values.{Val}

-- a variable: how many stand inside it
pub data Var : List Ty → Ty → Type 0 where
  here : {t : Ty} {Γ : List Ty} → Var (t ∷ Γ) t
  there : {t u : Ty} {Γ : List Ty} → Var Γ t → Var (u ∷ Γ) t

pub data Scalar : Ty → Type 0 where
  number : Int → Scalar int
  truth : Bool → Scalar bool

abbrev pub scalar : {t : Ty} → Scalar t → Val t
scalar (number k) = k
scalar (truth b) = b

-- what an infix sign answers; its operands are ints
abbrev pub answers : Infix → Ty
answers Add = int
answers Subtract = int
answers Multiply = int
answers Divide = int
answers Remainder = int
answers Same = bool
answers Less = bool

-- what an operation joins; that of the house is any on ints
abbrev pub joined : Operation → Ty
joined Sum = int
joined Max = int
joined Or = bool
joined Lin = pair int int
joined House = int

abbrev pub copies : ℕ → Ty → List Ty
copies zero a = []
copies (suc k) a = a ∷ copies k a

-- a primitive: the types of its operands, and of its result
pub data Op : List Ty → Ty → Type 0 where
  infix_op : (o : Infix) → Op (int ∷ int ∷ []) (answers o)
  mkpair : {a b : Ty} → Op (a ∷ b ∷ []) (pair a b)
  first : {a b : Ty} → Op (pair a b ∷ []) a
  second : {a b : Ty} → Op (pair a b ∷ []) b
  -- a list in brackets, with k elements after its first
  bracket : (k : ℕ) (a : Ty) → Op (a ∷ copies k a) (list a)
  hollow : (a : Ty) → Op [] (list a)
  index : {a : Ty} → Op (list a ∷ int ∷ []) a
  len_op : {a : Ty} → Op (list a ∷ []) int
  range_op : Op (int ∷ []) (list int)
  flat_op : {a : Ty} → Op (list (list a) ∷ []) (list a)
  part_op : {a : Ty} → Op (list a ∷ list int ∷ []) (list (list a))
  scan_op : (o : Operation) → Op (list (joined o) ∷ []) (list (joined o))
  reduce_op : (o : Operation) → Op (list (joined o) ∷ []) (joined o)

mutual
  -- the number is the place of the node's own token
  pub data Expr : List Ty → Ty → Type 0 where
    con : {Γ : List Ty} {t : Ty} → ℕ → Scalar t → Expr Γ t
    group : {Γ : List Ty} {t : Ty} → ℕ → Expr Γ t → Expr Γ t
    var : {Γ : List Ty} {t : Ty} → ℕ → Var Γ t → Expr Γ t
    bind : {Γ : List Ty} {t u : Ty} → ℕ → Expr Γ t → Expr (t ∷ Γ) u → Expr Γ u
    prim : {Γ ts : List Ty} {t : Ty} → ℕ → Op ts t → Args Γ ts → Expr Γ t
    ite : {Γ : List Ty} {t : Ty} → ℕ → Expr Γ bool → Expr Γ t → Expr Γ t → Expr Γ t
    -- a comprehension: its list, its filter, its body; and one with no filter
    each : {Γ : List Ty} {a b : Ty} → ℕ → Expr Γ (list a) → Expr (a ∷ Γ) bool → Expr (a ∷ Γ) b → Expr Γ (list b)
    over : {Γ : List Ty} {a b : Ty} → ℕ → Expr Γ (list a) → Expr (a ∷ Γ) b → Expr Γ (list b)

  pub data Args : List Ty → List Ty → Type 0 where
    nil : {Γ : List Ty} → Args Γ []
    more : {Γ ts : List Ty} {t : Ty} → Expr Γ t → Args Γ ts → Args Γ (t ∷ ts)

-- a set of variables: a flag for each
abbrev pub Mask : List Ty → Type 0
Mask [] = Unit {0}
Mask (t ∷ Γ) = Bool × Mask Γ

abbrev pub empty : (Γ : List Ty) → Mask Γ
empty [] = tt
empty (t ∷ Γ) = (false, empty Γ)

abbrev pub single : {Γ : List Ty} {t : Ty} → Var Γ t → Mask Γ
single (here {Γ = Γ}) = (true, empty Γ)
single (there x) = (false, single x)

abbrev pub union : (Γ : List Ty) → Mask Γ → Mask Γ → Mask Γ
union [] m n = tt
union (t ∷ Γ) m n = (m.0 || n.0, union Γ m.1 n.1)

-- the free variables
unfoldable mutual
  pub free : {Γ : List Ty} {t : Ty} → Expr Γ t → Mask Γ
  free (con {Γ} p k) = empty Γ
  free (group p e) = free e
  free (var p x) = single x
  free (bind {Γ} p e b) = union Γ (free e) (free b).1
  free (prim p o es) = frees es
  free (ite {Γ} p c a b) = union Γ (free c) (union Γ (free a) (free b))
  free (each {Γ} p s f b) = union Γ (free s) (union Γ (free f).1 (free b).1)
  free (over {Γ} p s b) = union Γ (free s) (free b).1

  pub frees : {Γ ts : List Ty} → Args Γ ts → Mask Γ
  frees (nil {Γ}) = empty Γ
  frees (more {Γ} e es) = union Γ (free e) (frees es)
