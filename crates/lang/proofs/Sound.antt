-- What elaboration answers has the type that the rules give.
use Rattle.std.proofs.Common.{◌≡◌, ℕ, ◌+◌, ◌≤◌, Bool, true, false, cond, leb, List, [], ◌∷◌, ◌++◌, length, ap, ◌∙◌, arith}
use mathlib.Core.Path as P
use mathlib.Core.Option.{Option, none, some}
use Rattle.std.proofs.lemmas.Bool.{leb-true}
use Rattle.types.specs.Types.{Ty, int, bool, pair, list, parts, same}
use Rattle.grammar.specs.declared.occurrence.Infix.{Infix}
use Rattle.grammar.specs.declared.occurrence.Unary.{Unary}
use Rattle.grammar.specs.declared.occurrence.Unary.TheVariants.{Fst, Snd, Len, Range, Flat}
use Rattle.grammar.specs.declared.occurrence.Operation.{Operation}
use Rattle.grammar.specs.Tree.{Fold, scan, reduce, Tree, count}
use Rattle.lang.specs.Expr.{Expr, Args, answers, joined, infix_op, mkpair, part_op, hollow, nil, more, index, scan_op, reduce_op, range_op}
use Rattle.lang.specs.Scope.{Binding, bound, kinds, Found, lookup}
use Rattle.lang.specs.Rules.{Verdict, gives, unfit, large, is, infix_rule, pair_rule, index_rule, part_rule, unary_rule, fold_rule, empty_rule, list_rule}
use Rattle.lang.specs.Outcome.{Out, ok, refused, then, refuse}
use Rattle.lang.specs.Written.{Writes, writes_int, writes_bool, writes_pair, writes_list, Written, both, many, written}
use Rattle.lang.specs.Elaborate.{Typed, Operands, found, judged, one, two, at_type, wanted, rows, within, hollow_list, elaborate, elements}
use Rattle.lang.specs.Typing.{HasType, has_number, has_truth, has_variable, has_let, has_if, has_each, has_sieve, has_infix, has_fst, has_snd, has_len, has_range, has_flat, has_scan, has_reduce, has_index, has_group, has_pair, has_part, has_empty, has_list, AllHave, has_first, has_more}
use Rattle.lang.proofs.Names.{Right, lookup_right}
use Rattle.lang.proofs.Rules.{Gives, by_is, by_pair, by_list, by_limit, All, by_bracket}

-- what holds of an answer
abbrev pub Holds : {A : Type 0} → (A → Type 0) → Out A → Type 0
Holds P (ok a) = P a
Holds P (refused r) = Unit {0}

pub after : {A B : Type 0} (P : A → Type 0) (Q : B → Type 0) (m : Out A) (f : A → Out B) → Holds P m → ((a : A) → P a → Holds Q (f a)) → Holds Q (then m f)
after P Q (ok a) f h k = k a h
after P Q (refused r) f h k = tt

-- of an expression's type
abbrev Is : {Γ : List Ty} → (Ty → Type 0) → Typed Γ → Type 0
Is P x = P x.0

judged-is : {Γ ts : List Ty} (Q : Ty → Type 0) (p : ℕ) (v : Verdict ts) (es : Args Γ ts) → Gives Q v → Holds (Is Q) (judged p v es)
judged-is Q p (gives t o) es h = h
judged-is Q p unfit es h = tt
judged-is Q p large es h = tt

one-is : {Γ : List Ty} (P Q : Ty → Type 0) (p : ℕ) (rule : (a : Ty) → Verdict (a ∷ [])) (x : Out (Typed Γ)) →
    Holds (Is P) x → ((a : Ty) → Gives (λ t. P a → Q t) (rule a)) → Holds (Is Q) (one p rule x)
one-is P Q p rule (ok x) h k = judged-is Q p (rule x.0) (more x.1 nil) (under (rule x.0) (k x.0))
  where
    under : {ts : List Ty} (v : Verdict ts) → Gives (λ t. P x.0 → Q t) v → Gives Q v
    under (gives t o) f = f h
    under unfit f = tt
    under large f = tt
one-is P Q p rule (refused r) h k = tt

two_is : {Γ : List Ty} (P R Q : Ty → Type 0) (p : ℕ) (rule : (a b : Ty) → Verdict (a ∷ b ∷ [])) (x y : Out (Typed Γ)) →
    Holds (Is P) x → Holds (Is R) y → ((a b : Ty) → Gives (λ t. P a → R b → Q t) (rule a b)) → Holds (Is Q) (two p rule x y)
two_is P R Q p rule (ok x) (ok y) h i k = judged-is Q p (rule x.0 y.0) (more x.1 (more y.1 nil)) (under (rule x.0 y.0) (k x.0 y.0))
  where
    under : {ts : List Ty} (v : Verdict ts) → Gives (λ t. P x.0 → R y.0 → Q t) v → Gives Q v
    under (gives t o) f = f h i
    under unfit f = tt
    under large f = tt
two_is P R Q p rule (ok x) (refused r) h i k = tt
two_is P R Q p rule (refused r) y h i k = tt

-- the rules
infix_is : (s : List Binding) (p : ℕ) (o : Infix) (x y : Tree) (a b : Ty) →
    Gives (λ t. HasType s x a → HasType s y b → HasType s (Tree.operate p o x y) t) (infix_rule o a b)
infix_is s p o x y a b =
    by_is (λ t. t ∷ b ∷ []) (λ c t. HasType s x c → HasType s y b → HasType s (Tree.operate p o x y) t) (same a int) (is (λ t. int ∷ t ∷ []) (same b int) (gives (answers o) (infix_op o)))
    (by_is (λ t. int ∷ t ∷ []) (λ c t. HasType s x int → HasType s y c → HasType s (Tree.operate p o x y) t) (same b int) (gives (answers o) (infix_op o)) has_infix)

index_is : (s : List Binding) (p : ℕ) (x y : Tree) (a b : Ty) → Gives (λ t. HasType s x a → HasType s y b → HasType s (Tree.index p x y) t) (index_rule a b)
index_is s p x y a b =
    by_list (λ t. t ∷ b ∷ []) (λ c t. HasType s x c → HasType s y b → HasType s (Tree.index p x y) t) a _ λ e.
    by_is (λ t. list e ∷ t ∷ []) (λ c t. HasType s x (list e) → HasType s y c → HasType s (Tree.index p x y) t) (same b int) (gives e index) has_index

part-is : (s : List Binding) (p : ℕ) (x y : Tree) (a b : Ty) → Gives (λ t. HasType s x a → HasType s y b → HasType s (Tree.part p x y) t) (part_rule a b)
part-is s p x y a b =
    by_list (λ t. t ∷ b ∷ []) (λ c t. HasType s x c → HasType s y b → HasType s (Tree.part p x y) t) a _ λ e.
    by_is (λ t. list e ∷ t ∷ []) (λ c t. HasType s x (list e) → HasType s y c → HasType s (Tree.part p x y) t) (same b (list int)) _
    (by_limit (λ t. HasType s x (list e) → HasType s y (list int) → HasType s (Tree.part p x y) t) part_op (λ l h k. has_part h k l))

pair_is : (s : List Binding) (p : ℕ) (x y : Tree) (a b : Ty) → Gives (λ t. HasType s x a → HasType s y b → HasType s (Tree.pair p x y) t) (pair_rule a b)
pair_is s p x y a b = by_limit (λ t. HasType s x a → HasType s y b → HasType s (Tree.pair p x y) t) mkpair (λ l h k. has_pair h k l)

unary-is : (s : List Binding) (p : ℕ) (o : Unary) (x : Tree) (a : Ty) → Gives (λ t. HasType s x a → HasType s (Tree.apply p o x) t) (unary_rule o a)
unary-is s p Fst x a = by_pair (λ t. t ∷ []) (λ c t. HasType s x c → HasType s (Tree.apply p Fst x) t) a _ (λ u v. has_fst)
unary-is s p Snd x a = by_pair (λ t. t ∷ []) (λ c t. HasType s x c → HasType s (Tree.apply p Snd x) t) a _ (λ u v. has_snd)
unary-is s p Len x a = by_list (λ t. t ∷ []) (λ c t. HasType s x c → HasType s (Tree.apply p Len x) t) a _ (λ e. has_len)
unary-is s p Range x a = by_is (λ t. t ∷ []) (λ c t. HasType s x c → HasType s (Tree.apply p Range x) t) (same a int) (gives (list int) range_op) has_range
unary-is s p Flat x a =
    by_list (λ t. t ∷ []) (λ c t. HasType s x c → HasType s (Tree.apply p Flat x) t) a _ λ e.
    by_list (λ t. list t ∷ []) (λ c t. HasType s x (list c) → HasType s (Tree.apply p Flat x) t) e _ (λ d. has_flat)

fold_is : (s : List Binding) (p : ℕ) (f : Fold) (o : Operation) (x : Tree) (a : Ty) → Gives (λ t. HasType s x a → HasType s (Tree.fold p f o x) t) (fold_rule f o a)
fold_is s p scan o x a = by_is (λ t. t ∷ []) (λ c t. HasType s x c → HasType s (Tree.fold p scan o x) t) (same a (list (joined o))) (gives (list (joined o)) (scan_op o)) has_scan
fold_is s p reduce o x a = by_is (λ t. t ∷ []) (λ c t. HasType s x c → HasType s (Tree.fold p reduce o x) t) (same a (list (joined o))) (gives (joined o) (reduce_op o)) has_reduce

-- written types
abbrev pub WrittenRight : Tree → Option Written → Type 0
WrittenRight e none = Unit {0}
WrittenRight e (some x) = Writes e x.0 x.1

both_right : (p : ℕ) (a b : Tree) (x y : Option Written) → WrittenRight a x → WrittenRight b y → WrittenRight (Tree.both p a b) (both p x y)
both_right p a b none y h k = tt
both_right p a b (some x) none h k = tt
both_right p a b (some x) (some y) h k = writes_pair h k

many_right : (p : ℕ) (a : Tree) (x : Option Written) → WrittenRight a x → WrittenRight (Tree.many p a) (many p x)
many_right p a none h = tt
many_right p a (some x) h = writes_list h

pub written_right : (e : Tree) → WrittenRight e (written e)
unfolding written
written_right (Tree.int p) = writes_int
written_right (Tree.bool p) = writes_bool
written_right (Tree.both p a b) = both_right p a b (written a) (written b) (written_right a) (written_right b)
written_right (Tree.many p a) = many_right p a (written a) (written_right a)
written_right (Tree.number _ _) = tt
written_right (Tree.truth _ _) = tt
written_right (Tree.variable _ _) = tt
written_right (Tree.bind _ _ _ _) = tt
written_right (Tree.choice _ _ _ _) = tt
written_right (Tree.each _ _ _ _) = tt
written_right (Tree.sieve _ _ _ _ _) = tt
written_right (Tree.operate _ _ _ _) = tt
written_right (Tree.apply _ _ _) = tt
written_right (Tree.fold _ _ _ _) = tt
written_right (Tree.index _ _ _) = tt
written_right (Tree.group _ _) = tt
written_right (Tree.pair _ _ _) = tt
written_right (Tree.part _ _ _) = tt
written_right (Tree.empty _ _) = tt
written_right (Tree.list _ _) = tt
written_right (Tree.first _) = tt
written_right (Tree.more _ _) = tt
written_right (Tree.program _ _ _ _ _ _) = tt

hollow_is : (s : List Binding) (p : ℕ) (a : Tree) (x : Option Written) → WrittenRight a x → Holds (Is (HasType s (Tree.empty p a))) (hollow_list {Γ = kinds s} p x)
hollow_is s p a none h = tt
hollow_is s p a (some x) h = judged-is (HasType s (Tree.empty p a)) p (empty_rule x.1) nil (by_limit (HasType s (Tree.empty p a)) (hollow x.1) (has_empty h))

-- what is wanted, a list, a type that is not too large; Q holds of an expression with its type
pub at_type_holds : {Γ : List Ty} {t u : Ty} (Q : Typed Γ → Type 0) (m : Option (Id Ty t u)) (p : ℕ) (e : Expr Γ t) → Q (t, e) →
    Holds (λ (e : Expr Γ u). Q (u, e)) (at_type m p e)
at_type_holds Q none p e h = tt
at_type_holds Q (some refl) p e h = h

pub wanted_holds : {Γ : List Ty} (Q : Typed Γ → Type 0) (u : Ty) (p : ℕ) (x : Typed Γ) → Q x → Holds (λ (e : Expr Γ u). Q (u, e)) (wanted u p x)
wanted_holds Q u p x h = at_type_holds Q (same x.0 u) p x.1 h

pub rows_holds : {Γ : List Ty} (Q : Typed Γ → Type 0) (p : ℕ) (t : Ty) (e : Expr Γ t) → Q (t, e) →
    Holds (λ (x : (a : Ty) × Expr Γ (list a)). Q (list x.0, x.1)) (rows p t e)
rows_holds Q p int e h = tt
rows_holds Q p bool e h = tt
rows_holds Q p (pair a b) e h = tt
rows_holds Q p (list a) e h = h

pub within_holds : {Γ : List Ty} {t : Ty} (Q : Typed Γ → Type 0) (p : ℕ) (e : Expr Γ t) → (parts t ≤ 8 → Q (t, e)) → Holds Q (within p e)
within_holds {Γ} {t} Q p e h = by (leb (parts t) 8) P.refl
  where
    by : (b : Bool) → leb (parts t) 8 ≡ b → Holds Q (cond b (ok (t, e)) (refuse 7 p))
    by true d = h (leb-true _ _ d)
    by false d = tt

found-is : (s : List Binding) (p : ℕ) (n : _) (x : Option (Found s)) → Right s n x → Holds (Is (HasType s (Tree.variable p n))) (found s p x)
found-is s p n none h = tt
found-is s p n (some x) h = has_variable h

-- the elements have one type if their types are the same
abbrev pub Each : (s : List Binding) → Tree → Operands (kinds s) → Type 0
Each s es xs = (length xs.0 ≡ count es) × ((t : Ty) → All t xs.0 → AllHave s es t)

all_last : (t : Ty) (ts : List Ty) (u : Ty) → All t (ts ++ (u ∷ [])) → All t ts × (u ≡ t)
all_last t [] u h = (tt, h.0)
all_last t (v ∷ ts) u h = let (k, e) = all_last t ts u h.1 in ((h.0, k), e)

pub long_last : (ts : List Ty) (u : Ty) → length (ts ++ (u ∷ [])) ≡ length ts + 1
long_last [] u = P.refl
long_last (v ∷ ts) u = omega (arith, long_last ts u)

mutual
  unfolding elaborate elements

  pub sound : (e : Tree) (s : List Binding) → Holds (Is (HasType s e)) (elaborate e s)
  sound (Tree.number p v) s = has_number
  sound (Tree.truth p b) s = has_truth
  sound (Tree.variable p n) s = found-is s p n (lookup s n) (lookup_right s n)
  sound (Tree.bind p n e b) s =
      after (Is (HasType s e)) _ (elaborate e s) _ (sound e s) λ x h.
      after (Is (HasType (bound n x.0 ∷ s) b)) _ (elaborate b (bound n x.0 ∷ s)) _ (sound b (bound n x.0 ∷ s)) λ y k. has_let h k
  sound (Tree.choice p c a b) s =
      after (Is (HasType s c)) _ (elaborate c s) _ (sound c s) λ x h.
      after (λ _. HasType s c bool) _ (wanted bool p x) _ (wanted_holds (Is (HasType s c)) bool p x h) λ x h.
      after (Is (HasType s a)) _ (elaborate a s) _ (sound a s) λ y k.
      after (Is (HasType s b)) _ (elaborate b s) _ (sound b s) λ z l.
      after (λ _. HasType s b y.0) _ (wanted y.0 p z) _ (wanted_holds (Is (HasType s b)) y.0 p z l) λ z l. has_if h k l
  sound (Tree.each p n b l) s =
      after (Is (HasType s l)) _ (elaborate l s) _ (sound l s) λ x h.
      after (λ x. HasType s l (list x.0)) _ (rows p x.0 x.1) _ (rows_holds (Is (HasType s l)) p x.0 x.1 h) λ x h.
      after (Is (HasType (bound n x.0 ∷ s) b)) _ (elaborate b (bound n x.0 ∷ s)) _ (sound b (bound n x.0 ∷ s)) λ y k.
      within_holds (Is (HasType s (Tree.each p n b l))) p _ (has_each h k)
  sound (Tree.sieve p n b l f) s =
      after (Is (HasType s l)) _ (elaborate l s) _ (sound l s) λ x h.
      after (λ x. HasType s l (list x.0)) _ (rows p x.0 x.1) _ (rows_holds (Is (HasType s l)) p x.0 x.1 h) λ x h.
      after (Is (HasType (bound n x.0 ∷ s) f)) _ (elaborate f (bound n x.0 ∷ s)) _ (sound f (bound n x.0 ∷ s)) λ g i.
      after (Is (HasType (bound n x.0 ∷ s) b)) _ (elaborate b (bound n x.0 ∷ s)) _ (sound b (bound n x.0 ∷ s)) λ y k.
      after (λ _. HasType (bound n x.0 ∷ s) f bool) _ (wanted bool p g) _ (wanted_holds (Is (HasType (bound n x.0 ∷ s) f)) bool p g i) λ g i.
      within_holds (Is (HasType s (Tree.sieve p n b l f))) p _ (has_sieve h i k)
  sound (Tree.operate p o a b) s =
      two_is (HasType s a) (HasType s b) (HasType s (Tree.operate p o a b)) p (infix_rule o) (elaborate a s) (elaborate b s) (sound a s) (sound b s) (infix_is s p o a b)
  sound (Tree.apply p o a) s = one-is (HasType s a) (HasType s (Tree.apply p o a)) p (unary_rule o) (elaborate a s) (sound a s) (unary-is s p o a)
  sound (Tree.fold p f o a) s = one-is (HasType s a) (HasType s (Tree.fold p f o a)) p (fold_rule f o) (elaborate a s) (sound a s) (fold_is s p f o a)
  sound (Tree.index p a b) s =
      two_is (HasType s a) (HasType s b) (HasType s (Tree.index p a b)) p index_rule (elaborate a s) (elaborate b s) (sound a s) (sound b s) (index_is s p a b)
  sound (Tree.group p a) s = after (Is (HasType s a)) _ (elaborate a s) _ (sound a s) λ x h. has_group h
  sound (Tree.pair p a b) s =
      two_is (HasType s a) (HasType s b) (HasType s (Tree.pair p a b)) p pair_rule (elaborate a s) (elaborate b s) (sound a s) (sound b s) (pair_is s p a b)
  sound (Tree.part p a b) s =
      two_is (HasType s a) (HasType s b) (HasType s (Tree.part p a b)) p part_rule (elaborate a s) (elaborate b s) (sound a s) (sound b s) (part-is s p a b)
  sound (Tree.empty p t) s = hollow_is s p t (written t) (written_right t)
  sound (Tree.list p es) s =
      after (Each s es) (Is (HasType s (Tree.list p es))) (elements es s) _ (sound_elements es s) λ xs h.
      judged-is (HasType s (Tree.list p es)) p (list_rule xs.0) xs.1
      (by_bracket (HasType s (Tree.list p es)) xs.0 λ t a n l. has_list (h.1 t a) (omega (arith, h.0)) l)
  sound (Tree.first _) s = tt
  sound (Tree.more _ _) s = tt
  sound (Tree.int _) s = tt
  sound (Tree.bool _) s = tt
  sound (Tree.both _ _ _) s = tt
  sound (Tree.many _ _) s = tt
  sound (Tree.program _ _ _ _ _ _) s = tt

  pub sound_elements : (e : Tree) (s : List Binding) → Holds (Each s e) (elements e s)
  sound_elements (Tree.first a) s = after (Is (HasType s a)) (Each s (Tree.first a)) (elaborate a s) _ (sound a s) λ x h. (P.refl, λ t e. has_first (rw (← e.0) h))
  sound_elements (Tree.more es a) s =
      after (Each s es) (Each s (Tree.more es a)) (elements es s) _ (sound_elements es s) λ xs h.
      after (Is (HasType s a)) (Each s (Tree.more es a)) (elaborate a s) _ (sound a s) λ x k.
      (long_last xs.0 x.0 ∙ ap (λ n. n + 1) h.0, λ t e. let (l, d) = all_last t xs.0 x.0 e in has_more (h.1 t l) (rw (← d) k))
  sound_elements (Tree.number _ _) s = tt
  sound_elements (Tree.truth _ _) s = tt
  sound_elements (Tree.variable _ _) s = tt
  sound_elements (Tree.bind _ _ _ _) s = tt
  sound_elements (Tree.choice _ _ _ _) s = tt
  sound_elements (Tree.each _ _ _ _) s = tt
  sound_elements (Tree.sieve _ _ _ _ _) s = tt
  sound_elements (Tree.operate _ _ _ _) s = tt
  sound_elements (Tree.apply _ _ _) s = tt
  sound_elements (Tree.fold _ _ _ _) s = tt
  sound_elements (Tree.index _ _ _) s = tt
  sound_elements (Tree.group _ _) s = tt
  sound_elements (Tree.pair _ _ _) s = tt
  sound_elements (Tree.part _ _ _) s = tt
  sound_elements (Tree.empty _ _) s = tt
  sound_elements (Tree.list _ _) s = tt
  sound_elements (Tree.int _) s = tt
  sound_elements (Tree.bool _) s = tt
  sound_elements (Tree.both _ _ _) s = tt
  sound_elements (Tree.many _ _) s = tt
  sound_elements (Tree.program _ _ _ _ _ _) s = tt
