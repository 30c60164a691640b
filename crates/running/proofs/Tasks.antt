-- Each task does what the rules say of its primitive.
use Rattle.std.proofs.Common.{ℕ, suc, List}
use Rattle.monoid.specs.declared.int.Int.{Int}
use Rattle.types.specs.Types.{Ty}
use Rattle.lang.specs.Expr.{Op, infix_op, mkpair, first, second, bracket, hollow, index, len_op, range_op, flat_op, part_op, scan_op, reduce_op}
use Rattle.rules.specs.Environment.{Env}
use Rattle.rules.specs.Joining.{HouseJoin}
use Rattle.rules.specs.Primitives.{apply, failure}
use Rattle.rules.specs.Charges.{prim_charge}
use Rattle.plan.specs.Boxes.{task_of}
use Rattle.running.specs.Machine.{st, do_task}
use Rattle.running.proofs.Doing.{Pushed, p_nil, p_more, Does, Tasks}
use Rattle.running.proofs.Plain.{operates, pairs, firsts, seconds, indices, lengths}
use Rattle.running.proofs.Lists.{brackets, hollows, ranges, flats}
use Rattle.running.proofs.Parts.{parts}
use Rattle.running.proofs.Scans.{scans, reduces}

module _ (B : ℕ) (H : HouseJoin) where
  done : {ts : List Ty} {t : Ty} {vs : Env ts} {o o' h : List Int} (f : Op ts t) (p i c : ℕ) (e l : List Int) → Pushed h ts o vs o' →
      Does B t (failure f) p i c h o e l (λ v. prim_charge ts t vs v) (do_task B H (task_of f) p (st i c h o' e l)) (apply H f vs)
  done (infix_op f) p i c e l (p_more _ u a q (p_more _ v b r p_nil)) = operates B p i c _ _ e l f u v a b q.holds r.holds
  done mkpair p i c e l (p_more s u a q (p_more t v b r p_nil)) = pairs B p i c _ _ e l s t u v a b q.holds r.holds
  done (first {a = s} {b = t}) p i c e l (p_more _ u a q p_nil) = firsts B p i c _ _ e l s t u a.0 a.1 q.holds
  done (second {a = s} {b = t}) p i c e l (p_more _ u a q p_nil) = seconds B p i c _ _ e l s t u a.0 a.1 q.holds
  done {vs = vs} {o = o} {o' = o'} {h = h} (bracket k a) p i c e l r = brackets B p i c h o e l (suc k) a o' vs r
  done (hollow a) p i c e l p_nil = hollows B p i c _ _ e l a
  done (index {a = t}) p i c e l (p_more _ u a q (p_more _ v b r p_nil)) = indices B p i c _ _ e l t u v b a q.holds r.holds
  done (len_op {a = t}) p i c e l (p_more _ u a q p_nil) = lengths B p i c _ _ e l t u a q.holds
  done range_op p i c e l (p_more _ u a q p_nil) = ranges B p i c _ _ e l u a q.holds
  done (flat_op {a = t}) p i c e l (p_more _ u a q p_nil) = flats B p i c _ _ e l t u a q.holds
  done (part_op {a = t}) p i c e l (p_more _ u a q (p_more _ v b r p_nil)) = parts B p i c _ _ e l t u v a b q.holds r.holds
  done (scan_op f) p i c e l (p_more _ u a q p_nil) = scans B p i c _ _ e l H f u a q.holds
  done (reduce_op f) p i c e l (p_more _ u a q p_nil) = reduces B p i c _ _ e l H f u a q.holds

  pub tasks : Tasks B H
  tasks ts t f vs p i c h o o' e l r = done f p i c e l r
