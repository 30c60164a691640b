-- From a tree of the grammar to an expression with its type, or to the first refusal in the order of evaluation.
use Rattle.std.specs.Prelude.{ℕ, cond, List, [], ◌∷◌, ◌++◌, pos, nat_le}
use Rattle.std.proofs.Math.Option.{Option, none, some}
use Rattle.monoid.specs.Ints.{int_of}
use Rattle.types.specs.Types.{Ty, int, bool, pair, list, parts, same}
use Rattle.grammar.specs.Tree.{Tree}
use Rattle.lang.specs.Outcome.{Out, ok, then, refuse}
use Rattle.lang.specs.Written.{Written, written}
use Rattle.lang.specs.Expr.{Expr, Args, number, truth, con, group, var, bind, prim, ite, each, over, nil, more}
use Rattle.lang.specs.Scope.{Binding, bound, kinds, Found, lookup}
use Rattle.lang.specs.Rules.{Verdict, gives, unfit, large, limit, infix_rule, pair_rule, index_rule, part_rule, unary_rule, fold_rule, empty_rule, list_rule}

-- an expression with its type
abbrev pub Typed : List Ty → Type 0
Typed Γ = (t : Ty) × Expr Γ t

-- operands with their types
abbrev pub Operands : List Ty → Type 0
Operands Γ = (ts : List Ty) × Args Γ ts

-- an unknown name
abbrev pub found : (s : List Binding) → ℕ → Option (Found s) → Out (Typed (kinds s))
found s p none = refuse 5 p
found s p (some x) = ok (x.0, var p x.1)

-- a node whose operands have been elaborated
abbrev pub judged : {Γ ts : List Ty} → ℕ → Verdict ts → Args Γ ts → Out (Typed Γ)
judged p (gives t o) es = ok (t, prim p o es)
judged p unfit es = refuse 6 p
judged p large es = refuse 7 p

-- nodes of one operand and of two
abbrev pub one : {Γ : List Ty} → ℕ → ((a : Ty) → Verdict (a ∷ [])) → Out (Typed Γ) → Out (Typed Γ)
one p rule x = then x λ x. judged p (rule x.0) (more x.1 nil)

abbrev pub two : {Γ : List Ty} → ℕ → ((a b : Ty) → Verdict (a ∷ b ∷ [])) → Out (Typed Γ) → Out (Typed Γ) → Out (Typed Γ)
two p rule x y = then x λ x. then y λ y. judged p (rule x.0 y.0) (more x.1 (more y.1 nil))

-- the operands of a list in brackets
abbrev pub add_last : {Γ ts : List Ty} {t : Ty} → Args Γ ts → Expr Γ t → Args Γ (ts ++ (t ∷ []))
add_last nil e = more e nil
add_last (more x xs) e = more x (add_last xs e)

-- an expression at the type that is wanted
abbrev pub at_type : {Γ : List Ty} {t u : Ty} → Option (Id Ty t u) → ℕ → Expr Γ t → Out (Expr Γ u)
at_type none p e = refuse 6 p
at_type (some refl) p e = ok e

abbrev pub wanted : {Γ : List Ty} (u : Ty) → ℕ → Typed Γ → Out (Expr Γ u)
wanted u p x = at_type (same x.0 u) p x.1

-- a list of any type
abbrev pub rows : {Γ : List Ty} → ℕ → (t : Ty) → Expr Γ t → Out ((a : Ty) × Expr Γ (list a))
rows p int e = refuse 6 p
rows p bool e = refuse 6 p
rows p (pair a b) e = refuse 6 p
rows p (list a) e = ok (a, e)

-- a node whose type is not too large
abbrev pub within : {Γ : List Ty} {t : Ty} → ℕ → Expr Γ t → Out (Typed Γ)
within {t = t} p e = cond (nat_le (parts t) limit) (ok (t, e)) (refuse 7 p)

abbrev pub hollow_list : {Γ : List Ty} → ℕ → Option Written → Out (Typed Γ)
hollow_list p none = refuse 6 p
hollow_list p (some x) = judged p (empty_rule x.1) nil

-- a tree that is no expression is refused with 6 at 0, which no phrase of the grammar is
unfoldable mutual
  pub elaborate : Tree → (s : List Binding) → Out (Typed (kinds s))
  elaborate (Tree.number p v) s = ok (int, con p (number (int_of (pos v))))
  elaborate (Tree.truth p b) s = ok (bool, con p (truth b))
  elaborate (Tree.variable p n) s = found s p (lookup s n)
  elaborate (Tree.bind p n e b) s =
      then (elaborate e s) λ x. then (elaborate b (bound n x.0 ∷ s)) λ y. ok (y.0, bind p x.1 y.1)
  elaborate (Tree.choice p c a b) s =
      then (elaborate c s) λ x. then (wanted bool p x) λ x. then (elaborate a s) λ y. then (elaborate b s) λ z.
      then (wanted y.0 p z) λ z. ok (y.0, ite p x y.1 z)
  elaborate (Tree.each p n b l) s =
      then (elaborate l s) λ x. then (rows p x.0 x.1) λ x. then (elaborate b (bound n x.0 ∷ s)) λ y.
      within p (over p x.1 y.1)
  elaborate (Tree.sieve p n b l f) s =
      then (elaborate l s) λ x. then (rows p x.0 x.1) λ x. then (elaborate f (bound n x.0 ∷ s)) λ k.
      then (elaborate b (bound n x.0 ∷ s)) λ y. then (wanted bool p k) λ k. within p (each p x.1 k y.1)
  elaborate (Tree.operate p o a b) s = two p (infix_rule o) (elaborate a s) (elaborate b s)
  elaborate (Tree.apply p o a) s = one p (unary_rule o) (elaborate a s)
  elaborate (Tree.fold p f o a) s = one p (fold_rule f o) (elaborate a s)
  elaborate (Tree.index p a b) s = two p index_rule (elaborate a s) (elaborate b s)
  elaborate (Tree.group p a) s = then (elaborate a s) λ x. ok (x.0, group p x.1)
  elaborate (Tree.pair p a b) s = two p pair_rule (elaborate a s) (elaborate b s)
  elaborate (Tree.part p a b) s = two p part_rule (elaborate a s) (elaborate b s)
  elaborate (Tree.empty p t) s = hollow_list p (written t)
  elaborate (Tree.list p es) s = then (elements es s) λ xs. judged p (list_rule xs.0) xs.1
  elaborate (Tree.first _) s = refuse 6 0
  elaborate (Tree.more _ _) s = refuse 6 0
  elaborate (Tree.int _) s = refuse 6 0
  elaborate (Tree.bool _) s = refuse 6 0
  elaborate (Tree.both _ _ _) s = refuse 6 0
  elaborate (Tree.many _ _) s = refuse 6 0
  elaborate (Tree.program _ _ _ _ _ _) s = refuse 6 0

  -- the elements of a list in brackets, from the left
  pub elements : Tree → (s : List Binding) → Out (Operands (kinds s))
  elements (Tree.first a) s = then (elaborate a s) λ x. ok (x.0 ∷ [], more x.1 nil)
  elements (Tree.more es a) s =
      then (elements es s) λ xs. then (elaborate a s) λ x. ok (xs.0 ++ (x.0 ∷ []), add_last xs.1 x.1)
  elements (Tree.number _ _) s = refuse 6 0
  elements (Tree.truth _ _) s = refuse 6 0
  elements (Tree.variable _ _) s = refuse 6 0
  elements (Tree.bind _ _ _ _) s = refuse 6 0
  elements (Tree.choice _ _ _ _) s = refuse 6 0
  elements (Tree.each _ _ _ _) s = refuse 6 0
  elements (Tree.sieve _ _ _ _ _) s = refuse 6 0
  elements (Tree.operate _ _ _ _) s = refuse 6 0
  elements (Tree.apply _ _ _) s = refuse 6 0
  elements (Tree.fold _ _ _ _) s = refuse 6 0
  elements (Tree.index _ _ _) s = refuse 6 0
  elements (Tree.group _ _) s = refuse 6 0
  elements (Tree.pair _ _ _) s = refuse 6 0
  elements (Tree.part _ _ _) s = refuse 6 0
  elements (Tree.empty _ _) s = refuse 6 0
  elements (Tree.list _ _) s = refuse 6 0
  elements (Tree.int _) s = refuse 6 0
  elements (Tree.bool _) s = refuse 6 0
  elements (Tree.both _ _ _) s = refuse 6 0
  elements (Tree.many _ _) s = refuse 6 0
  elements (Tree.program _ _ _ _ _ _) s = refuse 6 0
