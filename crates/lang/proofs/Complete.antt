-- Where the rules give a type, elaboration answers an expression of it; so a tree has one type.
use Rattle.std.proofs.Common.{◌≡◌, ℕ, ◌<◌, ◌≤◌, cond, List, [], ◌∷◌, ◌++◌, length, sym, ap, ◌∙◌, arith}
use mathlib.Core.Path as P
use mathlib.Core.Option.{some}
use Rattle.std.proofs.lemmas.Bool.{le-leb}
use Rattle.types.specs.Types.{Ty, parts}
use Rattle.grammar.specs.Tree.{Tree, count}
use Rattle.lang.specs.Expr.{Expr, group, bind, prim, ite, each, over, nil, more, joined, infix_op, mkpair, first, second, index, len_op, range_op, flat_op, part_op, hollow, scan_op, reduce_op}
use Rattle.lang.specs.Scope.{Binding, kinds}
use Rattle.lang.specs.Outcome.{Out, ok, refused, refuse}
use Rattle.lang.specs.Written.{Writes, writes_int, writes_bool, writes_pair, writes_list, written}
use Rattle.lang.specs.Elaborate.{Typed, Operands, found, add_last, at_type, wanted, within, elaborate, elements}
use Rattle.lang.specs.Typing.{HasType, has_number, has_truth, has_variable, has_let, has_if, has_each, has_sieve, has_infix, has_fst, has_snd, has_len, has_range, has_flat, has_scan, has_reduce, has_index, has_group, has_pair, has_part, has_empty, has_list, AllHave, has_first, has_more}
use Rattle.lang.specs.Laws.{Elaborates, TypingLaw, UniqueLaw}
use Rattle.lang.proofs.Names.{lookup_finds}
use Rattle.lang.proofs.Rules.{same_self, limit_gives, All, bracket_gives}
use Rattle.lang.proofs.Sound.{long_last, sound}

pub written-writes : {e : Tree} {p : ℕ} {t : Ty} → Writes e p t → written e ≡ some (p, t)
unfolding written
written-writes writes_int = P.refl
written-writes writes_bool = P.refl
written-writes (writes_pair {p} {x = x} {y} h k) = simp (written-writes h, written-writes k)
written-writes (writes_list h) = simp (written-writes h)

-- an expression at its own type
wanted_self : {Γ : List Ty} (t : Ty) (p : ℕ) (x : Expr Γ t) → wanted t p (t, x) ≡ ok x
wanted_self t p x = ap (λ m. at_type m p x) (same_self t)

within_small : {Γ : List Ty} {t : Ty} (p : ℕ) (x : Expr Γ t) → parts t ≤ 8 → within p x ≡ ok (t, x)
within_small {t = t} p x h = ap (λ b. cond b (ok (t, x)) (refuse 7 p)) (le-leb (parts t) 8 h)

all_more : (t : Ty) (ts : List Ty) → All t ts → All t (ts ++ (t ∷ []))
all_more t [] h = (P.refl, tt)
all_more t (u ∷ ts) h = (h.0, all_more t ts h.1)

-- elements of one type
abbrev FoundAll : List Binding → Tree → Ty → Type 0
FoundAll s es t = (xs : Operands (kinds s)) × (elements es s ≡ ok xs) × All t xs.0 × (length xs.0 ≡ count es) × (0 < count es)

mutual
  unfolding elaborate elements

  pub complete : {s : List Binding} {e : Tree} {t : Ty} → HasType s e t → Elaborates s e t
  complete has_number = (_, P.refl)
  complete has_truth = (_, P.refl)
  complete (has_variable {s} {p} b) = let (x, e) = lookup_finds b in (_, ap (found s p) e)
  complete (has_let {p = p} h k) = let (x, e) = complete h in let (y, d) = complete k in (bind p x y, simp (e, d))
  complete (has_if {p = p} {t = t} h k l) =
      let (x, e) = complete h in let (y, d) = complete k in let (z, c) = complete l in (ite p x y z, simp (e, d, c, wanted_self t p z))
  complete (has_each {p = p} h k l) =
      let (x, e) = complete h in let (y, d) = complete k in (over p x y, simp (e, d) (within_small p (over p x y) l))
  complete (has_sieve {p = p} h i k l) =
      let (x, e) = complete h in let (f, c) = complete i in let (y, d) = complete k in
      (each p x f y, simp (e, c, d) (within_small p (each p x f y) l))
  complete (has_infix {p = p} {o} h k) =
      let (x, e) = complete h in let (y, d) = complete k in (prim p (infix_op o) (more x (more y nil)), simp (e, d))
  complete (has_fst {p = p} h) = let (x, e) = complete h in (prim p first (more x nil), simp e)
  complete (has_snd {p = p} h) = let (x, e) = complete h in (prim p second (more x nil), simp e)
  complete (has_len {p = p} h) = let (x, e) = complete h in (prim p len_op (more x nil), simp e)
  complete (has_range {p = p} h) = let (x, e) = complete h in (prim p range_op (more x nil), simp e)
  complete (has_flat {p = p} h) = let (x, e) = complete h in (prim p flat_op (more x nil), simp e)
  complete (has_scan {p = p} {o} h) = let (x, e) = complete h in (prim p (scan_op o) (more x nil), simp (e, same_self (joined o)))
  complete (has_reduce {p = p} {o} h) = let (x, e) = complete h in (prim p (reduce_op o) (more x nil), simp (e, same_self (joined o)))
  complete (has_index {p = p} h k) =
      let (x, e) = complete h in let (y, d) = complete k in (prim p index (more x (more y nil)), simp (e, d))
  complete (has_group {p = p} h) = let (x, e) = complete h in (group p x, simp e)
  complete (has_pair {p = p} h k l) =
      let (x, e) = complete h in let (y, d) = complete k in (prim p mkpair (more x (more y nil)), simp (e, d, limit_gives mkpair l))
  complete (has_part {p = p} h k l) =
      let (x, e) = complete h in let (y, d) = complete k in (prim p part_op (more x (more y nil)), simp (e, d, limit_gives part_op l))
  complete (has_empty {p = p} {t = t} h l) = (prim p (hollow t) nil, simp (written-writes h, limit_gives (hollow t) l))
  complete (has_list {p = p} {t = t} h n l) =
      let (xs, e, a, c, d) = complete_all h in
      let (o, g) = bracket_gives t xs.0 a (omega arith) (omega arith) l in
      (prim p o xs.1, simp (e, g))

  pub complete_all : {s : List Binding} {es : Tree} {t : Ty} → AllHave s es t → FoundAll s es t
  complete_all (has_first h) = let (x, e) = complete h in ((_, more x nil), simp e, (P.refl, tt), P.refl, omega arith)
  complete_all (has_more {t = t} h k) =
      let (xs, e, a, c, d) = complete_all h in
      let (x, b) = complete k in
      ((_, add_last xs.1 x), simp (e, b), all_more t xs.0 a, omega (arith, long_last xs.0 t), omega arith)

sound_at : {s : List Binding} {e : Tree} {t : Ty} → Elaborates s e t → HasType s e t
sound_at {s} {e} {t} h = rw h.1 at (sound e s)

pub typing : TypingLaw
typing s e t = (sound_at, complete)

type_or : {Γ : List Ty} → Ty → Out (Typed Γ) → Ty
type_or d (ok x) = x.0
type_or d (refused r) = d

pub unique : UniqueLaw
unfolding type_or
unique s e t u h k = ap (type_or t) (sym (complete h).1 ∙ (complete k).1)
