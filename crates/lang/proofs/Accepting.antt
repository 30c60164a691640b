-- A program is accepted where the rules say so.
use Rattle.std.proofs.Common.{◌≡◌, ℕ, ◌≤◌, Bool, true, false, cond, leb, [], ◌∷◌, sym, ap, ◌∙◌}
use mathlib.Core.Path as P
use mathlib.Core.Option.{Option, none, some}
use Rattle.std.proofs.lemmas.Bool.{leb-true, le-leb}
use Rattle.tokens.specs.declared.kind.Name.{Name}
use Rattle.types.specs.Types.{Ty, parts, same}
use Rattle.grammar.specs.Tree.{Tree}
use Rattle.lang.specs.Expr.{Expr}
use Rattle.lang.specs.Weight.{weight}
use Rattle.lang.specs.Scope.{bound}
use Rattle.lang.specs.Outcome.{Out, ok, refused, refuse}
use Rattle.lang.specs.Written.{Writes, Written, written}
use Rattle.lang.specs.Elaborate.{elaborate}
use Rattle.lang.specs.Check.{Checked, header, at_result, declared, weighed, check}
use Rattle.lang.specs.Accepting.{Accepts, CheckLaw}
use Rattle.lang.proofs.Rules.{same_self}
use Rattle.lang.proofs.Sound.{Holds, after, WrittenRight, written_right}
use Rattle.lang.proofs.Complete.{written-writes, typing}

abbrev Header : Tree → Ty → Type 0
Header e t = ((p : ℕ) × Writes e p t) × (parts t ≤ 8)

header_is : (e : Tree) (x : Option Written) → WrittenRight e x → Holds (Header e) (header x)
header_is e none h = tt
header_is e (some x) h = by (leb (parts x.1) 8) P.refl
  where
    by : (b : Bool) → leb (parts x.1) 8 ≡ b → Holds (Header e) (cond b (ok x.1) (refuse 7 x.0))
    by true d = ((x.0, h), leb-true _ _ d)
    by false d = tt

itself : {A : Type 0} (m : Out A) → Holds (λ a. m ≡ ok a) m
itself (ok a) = P.refl
itself (refused r) = tt

declared-is : {a t u : Ty} (Q : (t : Ty) → Expr (a ∷ []) t → Type 0) (m : Option (Id Ty t u)) (e : Expr (a ∷ []) t) → Q t e → Holds (Q u) (at_result m e)
declared-is Q none e h = tt
declared-is Q (some refl) e h = h

weighed-is : (n : Name) (a b e : Tree) (t u : Ty) (y : Expr (t ∷ []) u) → Header a t → Header b u → elaborate e (bound n t ∷ []) ≡ ok (u, y) → Holds (Accepts n a b e) (weighed t u y)
weighed-is n a b e t u y h k l = by (leb (weight y) 2000) P.refl
  where
    by : (c : Bool) → leb (weight y) 2000 ≡ c → Holds (Accepts n a b e) (cond c (ok (record { parameter = t; result = u; body = y; weight = weight y })) (refuse 9 0))
    by true d = record { parameter = h.0; result = k.0; small_parameter = h.1; small_result = k.1; typed = (typing (bound n t ∷ []) e u).0 (y, l); body_is = l; weight_is = P.refl; light = leb-true _ _ d }
    by false d = tt

check-is : (x r : ℕ) (n : Name) (a b e : Tree) → Holds (Accepts n a b e) (check (Tree.program x n r a b e))
unfolding check
check-is x r n a b e =
    after (Header a) (Accepts n a b e) (header (written a)) _ (header_is a (written a) (written_right a)) λ t h.
    after (Header b) (Accepts n a b e) (header (written b)) _ (header_is b (written b) (written_right b)) λ u k.
    after (λ y. elaborate e (bound n t ∷ []) ≡ ok y) (Accepts n a b e) (elaborate e (bound n t ∷ [])) _ (itself (elaborate e (bound n t ∷ []))) λ y l.
    after (λ y. elaborate e (bound n t ∷ []) ≡ ok (u, y)) (Accepts n a b e) (declared u y) _
    (declared-is (λ t' y'. elaborate e (bound n t ∷ []) ≡ ok (t', y')) (same y.0 u) y.1 l) λ y l. weighed-is n a b e t u y h k l

header_gives : {e : Tree} {p : ℕ} {t : Ty} → Writes e p t → parts t ≤ 8 → header (written e) ≡ ok t
header_gives {p = p} {t} h l = ap header (written-writes h) ∙ ap (λ c. cond c (ok t) (refuse 7 p)) (le-leb (parts t) 8 l)

check_gives : (x r : ℕ) (n : Name) (a b e : Tree) (c : Checked) → Accepts n a b e c → check (Tree.program x n r a b e) ≡ ok c
unfolding check
check_gives x r n a b e c h =
    simp (header_gives h.parameter.1 h.small_parameter, header_gives h.result.1 h.small_result, h.body_is, same_self c.result, le-leb (weight c.body) 2000 h.light)
    (ap (λ k. ok (record { parameter = c.parameter; result = c.result; body = c.body; weight = k })) (sym h.weight_is))

pub checking : CheckLaw
checking x r n a b e c = (λ h. rw h at (check-is x r n a b e), check_gives x r n a b e c)
