-- What elaboration answers keeps the limits.
use Rattle.std.proofs.Common.{◌≡◌, ℕ, ◌≤◌, List, [], ◌∷◌, length, arith}
use mathlib.Core.Option.{Option, none, some}
use Rattle.types.specs.Types.{Ty, bool, list, parts}
use Rattle.grammar.specs.Tree.{Tree, count}
use Rattle.lang.specs.Expr.{Expr, Args, each, over, nil, more}
use Rattle.lang.specs.Scope.{Binding, bound, kinds, Found, lookup}
use Rattle.lang.specs.Rules.{Verdict, gives, unfit, large, limit, infix_rule, pair_rule, index_rule, part_rule, unary_rule, fold_rule, empty_rule, list_rule}
use Rattle.lang.specs.Outcome.{Out, ok, refused, then}
use Rattle.lang.specs.Written.{Written, written}
use Rattle.lang.specs.Elaborate.{Typed, Operands, found, judged, one, two, add_last, wanted, rows, hollow_list, elaborate, elements}
use Rattle.lang.specs.Typing.{HasType, has_list}
use Rattle.lang.specs.Laws.{Small}
use Rattle.lang.specs.Limits.{Limited, Limiteds, LimitsLaw}
use Rattle.lang.proofs.Sound.{Holds, after, wanted_holds, rows_holds, within_holds, Each, sound, sound_elements}
use Rattle.lang.proofs.Small.{small}

-- of the expression, and of its type
abbrev Lim : {Γ : List Ty} → Typed Γ → Type 0
Lim x = Limited x.1

abbrev Few : {Γ : List Ty} → Typed Γ → Type 0
Few x = parts x.0 ≤ limit

holds_map : {A : Type 0} (P Q : A → Type 0) (m : Out A) → ((a : A) → P a → Q a) → Holds P m → Holds Q m
holds_map P Q (ok a) f h = f a h
holds_map P Q (refused r) f h = tt

pub holds_both : {A : Type 0} (P Q : A → Type 0) (m : Out A) → Holds P m → Holds Q m → Holds (λ a. P a × Q a) m
holds_both P Q (ok a) h k = (h, k)
holds_both P Q (refused r) h k = tt

few : (e : Tree) (s : List Binding) → Small s → Holds Few (elaborate e s)
few e s m = holds_map (λ x. HasType s e x.0) Few (elaborate e s) (λ x h. small s e x.0 m h) (sound e s)

-- a primitive whose type is not too large
judged-limited : {Γ ts : List Ty} (p : ℕ) (v : Verdict ts) (es : Args Γ ts) → length ts ≤ limit → Limiteds es → Holds Few (judged p v es) → Holds Lim (judged p v es)
unfolding Limited
judged-limited p (gives t o) es n l h = (h, n, l)
judged-limited p unfit es n l h = tt
judged-limited p large es n l h = tt

one-limited : {Γ : List Ty} (p : ℕ) (rule : (a : Ty) → Verdict (a ∷ [])) (x : Out (Typed Γ)) → Holds Lim x → Holds Few (one p rule x) → Holds Lim (one p rule x)
unfolding Limited
one-limited p rule (ok x) h k = judged-limited p (rule x.0) (more x.1 nil) (omega arith) (h, tt) k
one-limited p rule (refused r) h k = tt

two-limited : {Γ : List Ty} (p : ℕ) (rule : (a b : Ty) → Verdict (a ∷ b ∷ [])) (x y : Out (Typed Γ)) → Holds Lim x → Holds Lim y → Holds Few (two p rule x y) → Holds Lim (two p rule x y)
unfolding Limited
two-limited p rule (ok x) (ok y) h i k = judged-limited p (rule x.0 y.0) (more x.1 (more y.1 nil)) (omega arith) (h, (i, tt)) k
two-limited p rule (ok x) (refused r) h i k = tt
two-limited p rule (refused r) y h i k = tt

hollow_limited : (Γ : List Ty) (p : ℕ) (x : Option Written) → Holds (Few {Γ = Γ}) (hollow_list p x) → Holds (Lim {Γ = Γ}) (hollow_list p x)
unfolding Limited
hollow_limited Γ p none h = tt
hollow_limited Γ p (some x) h = judged-limited p (empty_rule x.1) nil (omega arith) tt h

found-limited : (s : List Binding) (p : ℕ) (x : Option (Found s)) → Holds Few (found s p x) → Holds Lim (found s p x)
unfolding Limited
found-limited s p none h = tt
found-limited s p (some x) h = h

last_limited : {Γ ts : List Ty} {t : Ty} (es : Args Γ ts) (e : Expr Γ t) → Limiteds es → Limited e → Limiteds (add_last es e)
unfolding Limited
last_limited nil e h k = (k, tt)
last_limited (more x es) e h k = (h.0, last_limited es e h.1 k)

few_elements : {s : List Binding} {p : ℕ} {es : Tree} {t : Ty} → HasType s (Tree.list p es) t → count es ≤ limit
few_elements (has_list a n l) = n

list_limited : (s : List Binding) (p : ℕ) (es : Tree) (xs : Operands (kinds s)) → length xs.0 ≡ count es → Limiteds xs.1 → Small s →
    Holds (λ x. HasType s (Tree.list p es) x.0) (judged p (list_rule xs.0) xs.1) → Holds Lim (judged p (list_rule xs.0) xs.1)
list_limited s p es xs n l m h = by (list_rule xs.0) h
  where
    by : (v : Verdict xs.0) → Holds (λ x. HasType s (Tree.list p es) x.0) (judged p v xs.1) → Holds Lim (judged p v xs.1)
    by (gives t o) k = judged-limited p (gives t o) xs.1 (omega (arith, few_elements k, n)) l (small s (Tree.list p es) t m k)
    by unfit k = tt
    by large k = tt

list_of : (p : ℕ) (es : Tree) (s : List Binding) → Small s → (o : Out (Operands (kinds s))) → Holds (λ xs. Limiteds xs.1 × Each s es xs) o →
    Holds (λ x. HasType s (Tree.list p es) x.0) (then o (λ xs. judged p (list_rule xs.0) xs.1)) → Holds Lim (then o (λ xs. judged p (list_rule xs.0) xs.1))
list_of p es s m (ok xs) h k = list_limited s p es xs h.1.0 h.0 m k
list_of p es s m (refused r) h k = tt

mutual
  unfolding elaborate elements Limited

  pub limited : (e : Tree) (s : List Binding) → Small s → Holds Lim (elaborate e s)
  limited (Tree.number p v) s m = omega arith
  limited (Tree.truth p b) s m = omega arith
  limited (Tree.variable p n) s m = found-limited s p (lookup s n) (few (Tree.variable p n) s m)
  limited (Tree.bind p n e b) s m =
      after (λ x. Lim x × Few x) Lim (elaborate e s) _ (holds_both Lim Few (elaborate e s) (limited e s m) (few e s m)) λ x h.
      after Lim Lim (elaborate b (bound n x.0 ∷ s)) _ (limited b (bound n x.0 ∷ s) (h.1, m)) λ y k. (h.0, k)
  limited (Tree.choice p c a b) s m =
      after Lim Lim (elaborate c s) _ (limited c s m) λ x h.
      after Limited Lim (wanted bool p x) _ (wanted_holds Lim bool p x h) λ x h.
      after Lim Lim (elaborate a s) _ (limited a s m) λ y k.
      after Lim Lim (elaborate b s) _ (limited b s m) λ z l.
      after Limited Lim (wanted y.0 p z) _ (wanted_holds Lim y.0 p z l) λ z l. (h, k, l)
  limited (Tree.each p n b l) s m =
      after (λ x. Lim x × Few x) Lim (elaborate l s) _ (holds_both Lim Few (elaborate l s) (limited l s m) (few l s m)) λ x h.
      after (λ x. Limited x.1 × (parts (list x.0) ≤ limit)) Lim (rows p x.0 x.1) _
      (rows_holds (λ x. Lim x × Few x) p x.0 x.1 h) λ x h.
      after Lim Lim (elaborate b (bound n x.0 ∷ s)) _ (limited b (bound n x.0 ∷ s) (omega (arith, h.1), m)) λ y k.
      within_holds Lim p (over p x.1 y.1) (λ d. (d, h.0, k))
  limited (Tree.sieve p n b l f) s m =
      after (λ x. Lim x × Few x) Lim (elaborate l s) _ (holds_both Lim Few (elaborate l s) (limited l s m) (few l s m)) λ x h.
      after (λ x. Limited x.1 × (parts (list x.0) ≤ limit)) Lim (rows p x.0 x.1) _
      (rows_holds (λ x. Lim x × Few x) p x.0 x.1 h) λ x h.
      let in_scope : Small (bound n x.0 ∷ s) = (omega (arith, h.1), m) in
      after Lim Lim (elaborate f (bound n x.0 ∷ s)) _ (limited f (bound n x.0 ∷ s) in_scope) λ g i.
      after Lim Lim (elaborate b (bound n x.0 ∷ s)) _ (limited b (bound n x.0 ∷ s) in_scope) λ y k.
      after Limited Lim (wanted bool p g) _ (wanted_holds Lim bool p g i) λ g i.
      within_holds Lim p (each p x.1 g y.1) (λ d. (d, h.0, i, k))
  limited (Tree.operate p o a b) s m = two-limited p (infix_rule o) (elaborate a s) (elaborate b s) (limited a s m) (limited b s m) (few (Tree.operate p o a b) s m)
  limited (Tree.apply p o a) s m = one-limited p (unary_rule o) (elaborate a s) (limited a s m) (few (Tree.apply p o a) s m)
  limited (Tree.fold p f o a) s m = one-limited p (fold_rule f o) (elaborate a s) (limited a s m) (few (Tree.fold p f o a) s m)
  limited (Tree.index p a b) s m = two-limited p index_rule (elaborate a s) (elaborate b s) (limited a s m) (limited b s m) (few (Tree.index p a b) s m)
  limited (Tree.group p a) s m = after Lim Lim (elaborate a s) _ (limited a s m) λ x h. h
  limited (Tree.pair p a b) s m = two-limited p pair_rule (elaborate a s) (elaborate b s) (limited a s m) (limited b s m) (few (Tree.pair p a b) s m)
  limited (Tree.part p a b) s m = two-limited p part_rule (elaborate a s) (elaborate b s) (limited a s m) (limited b s m) (few (Tree.part p a b) s m)
  limited (Tree.empty p t) s m = hollow_limited (kinds s) p (written t) (few (Tree.empty p t) s m)
  limited (Tree.list p es) s m =
      list_of p es s m (elements es s) (holds_both (λ xs. Limiteds xs.1) (Each s es) (elements es s) (limited-elements es s m) (sound_elements es s)) (sound (Tree.list p es) s)
  limited (Tree.first _) s m = tt
  limited (Tree.more _ _) s m = tt
  limited (Tree.int _) s m = tt
  limited (Tree.bool _) s m = tt
  limited (Tree.both _ _ _) s m = tt
  limited (Tree.many _ _) s m = tt
  limited (Tree.program _ _ _ _ _ _) s m = tt

  pub limited-elements : (e : Tree) (s : List Binding) → Small s → Holds (λ xs. Limiteds xs.1) (elements e s)
  limited-elements (Tree.first a) s m = after Lim (λ xs. Limiteds xs.1) (elaborate a s) _ (limited a s m) λ x h. (h, tt)
  limited-elements (Tree.more es a) s m =
      after (λ xs. Limiteds xs.1) (λ xs. Limiteds xs.1) (elements es s) _ (limited-elements es s m) λ xs h.
      after Lim (λ xs. Limiteds xs.1) (elaborate a s) _ (limited a s m) λ x k. last_limited xs.1 x.1 h k
  limited-elements (Tree.number _ _) s m = tt
  limited-elements (Tree.truth _ _) s m = tt
  limited-elements (Tree.variable _ _) s m = tt
  limited-elements (Tree.bind _ _ _ _) s m = tt
  limited-elements (Tree.choice _ _ _ _) s m = tt
  limited-elements (Tree.each _ _ _ _) s m = tt
  limited-elements (Tree.sieve _ _ _ _ _) s m = tt
  limited-elements (Tree.operate _ _ _ _) s m = tt
  limited-elements (Tree.apply _ _ _) s m = tt
  limited-elements (Tree.fold _ _ _ _) s m = tt
  limited-elements (Tree.index _ _ _) s m = tt
  limited-elements (Tree.group _ _) s m = tt
  limited-elements (Tree.pair _ _ _) s m = tt
  limited-elements (Tree.part _ _ _) s m = tt
  limited-elements (Tree.empty _ _) s m = tt
  limited-elements (Tree.list _ _) s m = tt
  limited-elements (Tree.int _) s m = tt
  limited-elements (Tree.bool _) s m = tt
  limited-elements (Tree.both _ _ _) s m = tt
  limited-elements (Tree.many _ _) s m = tt
  limited-elements (Tree.program _ _ _ _ _ _) s m = tt

pub limits : LimitsLaw
limits s e t x m h = rw h at (limited e s m)
