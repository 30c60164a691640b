-- What each primitive asks of its operands' types, and what it gives.
use Rattle.std.specs.Prelude.{ℕ, zero, suc, cond, List, [], ◌∷◌, nat_le}
use Rattle.std.proofs.Math.Option.{Option, none, some}
use Rattle.types.specs.Types.{Ty, int, bool, pair, list, parts, same}
use Rattle.grammar.specs.declared.occurrence.Infix.{Infix}
use Rattle.grammar.specs.declared.occurrence.Unary.{Unary}
use Rattle.grammar.specs.declared.occurrence.Unary.TheVariants.{Fst, Snd, Len, Range, Flat}
use Rattle.grammar.specs.declared.occurrence.Operation.{Operation}
use Rattle.grammar.specs.Tree.{Fold, scan, reduce}
use Rattle.lang.specs.Expr.{answers, joined, copies, Op, infix_op, mkpair, first, second, bracket, hollow, index, len_op, range_op, flat_op, part_op, scan_op, reduce_op}

-- operands of these types give an operation, or do not fit, or would give a type or a list that is too large
pub data Verdict (ts : List Ty) : Type 0 where
  gives : (t : Ty) → Op ts t → Verdict ts
  unfit : Verdict ts
  large : Verdict ts

-- a type has at most so many parts, and a list in brackets so many elements
abbrev pub limit : ℕ
limit = 8

abbrev pub limited : {ts : List Ty} {t : Ty} → Op ts t → Verdict ts
limited {t = t} o = cond (nat_le (parts t) limit) (gives t o) large

-- only where two types are the same; F says where the type stands among the operands
abbrev pub is : {a b : Ty} (F : Ty → List Ty) → Option (Id Ty a b) → Verdict (F b) → Verdict (F a)
is F none v = unfit
is F (some refl) v = v

-- only where the type is a pair, a list
abbrev pub of_pair : (F : Ty → List Ty) (t : Ty) → ((a b : Ty) → Verdict (F (pair a b))) → Verdict (F t)
of_pair F int v = unfit
of_pair F bool v = unfit
of_pair F (pair a b) v = v a b
of_pair F (list a) v = unfit

abbrev pub of_list : (F : Ty → List Ty) (t : Ty) → ((a : Ty) → Verdict (F (list a))) → Verdict (F t)
of_list F int v = unfit
of_list F bool v = unfit
of_list F (pair a b) v = unfit
of_list F (list a) v = v a

-- two ints
abbrev pub infix_rule : Infix → (a b : Ty) → Verdict (a ∷ b ∷ [])
infix_rule o a b = is (λ t. t ∷ b ∷ []) (same a int) (is (λ t. int ∷ t ∷ []) (same b int) (gives (answers o) (infix_op o)))

abbrev pub pair_rule : (a b : Ty) → Verdict (a ∷ b ∷ [])
pair_rule a b = limited mkpair

-- a list and an int
abbrev pub index_rule : (a b : Ty) → Verdict (a ∷ b ∷ [])
index_rule a b = of_list (λ t. t ∷ b ∷ []) a λ e. is (λ t. list e ∷ t ∷ []) (same b int) (gives e index)

-- a list and the lengths that it is cut into
abbrev pub part_rule : (a b : Ty) → Verdict (a ∷ b ∷ [])
part_rule a b = of_list (λ t. t ∷ b ∷ []) a λ e. is (λ t. list e ∷ t ∷ []) (same b (list int)) (limited part_op)

abbrev pub unary_rule : Unary → (a : Ty) → Verdict (a ∷ [])
unary_rule Fst a = of_pair (λ t. t ∷ []) a λ x y. gives x first
unary_rule Snd a = of_pair (λ t. t ∷ []) a λ x y. gives y second
unary_rule Len a = of_list (λ t. t ∷ []) a λ e. gives int len_op
unary_rule Range a = is (λ t. t ∷ []) (same a int) (gives (list int) range_op)
unary_rule Flat a = of_list (λ t. t ∷ []) a λ e. of_list (λ t. list t ∷ []) e λ d. gives (list d) flat_op

-- a list of what the operation joins
abbrev pub fold_rule : Fold → Operation → (a : Ty) → Verdict (a ∷ [])
fold_rule scan o a = is (λ t. t ∷ []) (same a (list (joined o))) (gives (list (joined o)) (scan_op o))
fold_rule reduce o a = is (λ t. t ∷ []) (same a (list (joined o))) (gives (joined o) (reduce_op o))

abbrev pub empty_rule : Ty → Verdict []
empty_rule t = limited (hollow t)

-- all of the list are the type t
pub data Alike (t : Ty) : List Ty → Type 0 where
  alike : (k : ℕ) → Alike t (copies k t)

abbrev pub one_more : {t u : Ty} {ts : List Ty} → Option (Id Ty u t) → Option (Alike t ts) → Option (Alike t (u ∷ ts))
one_more none r = none
one_more (some q) none = none
one_more (some refl) (some (alike k)) = some (alike (suc k))

abbrev pub all_alike : (t : Ty) (ts : List Ty) → Option (Alike t ts)
all_alike t [] = some (alike zero)
all_alike t (u ∷ ts) = one_more (same u t) (all_alike t ts)

abbrev pub list_of : {t : Ty} {ts : List Ty} → Option (Alike t ts) → Verdict (t ∷ ts)
list_of none = unfit
list_of {t = t} (some (alike k)) = cond (nat_le (suc k) limit) (limited (bracket k t)) large

-- a list in brackets: one element or more, of one type
abbrev pub list_rule : (ts : List Ty) → Verdict ts
list_rule [] = unfit
list_rule (t ∷ ts) = list_of (all_alike t ts)
