-- The machine on a table does what the rules say of the expression that the table has.
use Rattle.std.proofs.Common.{ℕ, suc, ◌+◌, ◌≤◌, List, ◌∷◌, length, refl, ap, ◌∙◌, arith}
use Rattle.std.proofs.lemmas.Grind.{common_steps}
use Rattle.monoid.specs.declared.int.Int.{Int}
use Rattle.monoid.specs.Ints.{int_zero}
use Rattle.types.specs.Types.{Ty, list}
use Rattle.lang.specs.Values.{Val}
use Rattle.lang.specs.Expr.{Scalar, number, truth, scalar, Expr, Args, union, free}
use Rattle.lang.specs.Layout.{count}
use Rattle.judging.specs.Notes.{index_of}
use Rattle.rules.specs.Environment.{Env, look}
use Rattle.rules.specs.Joining.{HouseJoin}
use Rattle.rules.specs.Direct.{direct, directs}
use Rattle.plan.specs.declared.table.Entry.{Entry}
use Rattle.plan.specs.declared.table.Free.{Free}
use Rattle.plan.specs.Boxes.{leaf_word}
use Rattle.plan.specs.Planned.{Planned, PlannedArgs, p_con, p_group, p_var, p_bind, p_prim, p_ite, p_each, p_over, p_nil, p_more}
use Rattle.running.specs.Cells.{word, sizes_of}
use Rattle.running.specs.Machine.{st}
use Rattle.running.specs.Words.{Holds, Kept, with}
use Rattle.running.proofs.Counts.{place_of}
use Rattle.running.proofs.Holding.{sub_refl, sub_trans, word_sub, kept_sub, kept_look, sizes_free, list_few}
use Rattle.running.proofs.Meets.{Good, Meets, meets_bind, meets_bind_step, meets_ret, meets_pay, at_mark}
use Rattle.running.proofs.Doing.{Tasks, p_nil as pushed_nil, p_more as pushed_more}
use Rattle.running.proofs.Forks.{LeftAll, Roomy, after, joins, forks, chooses, either, ran}
use Rattle.running.proofs.Loops.{Looped, Piece, rows, overs}

leaf_holds : (h : List Int) {t : Ty} (k : Scalar t) → Holds h t (leaf_word k) (scalar k)
leaf_holds h (number k) = refl
leaf_holds h (truth b) = refl

-- a loop begins at a list's first element
begins : (a : Ty) (h : List Int) (w : Int) (xs : List (Val a)) (r : Holds h (list a) w xs) →
    Looped h w r.p (length xs) (length xs) (suc (suc r.p))
begins a h w xs r = grind (arith, common_steps, place_of, list_few)

module _ (B K Z : ℕ) (H : HouseJoin) (os : List Entry) (fs : List Free) (roomy : Roomy B K Z) (tasks : Tasks B H) where
  mutual
    unfolding direct directs

    pub runs : {Γ : List Ty} {t : Ty} {x : Expr Γ t} {i j : ℕ} → Planned os fs Γ t x i j → Piece B K Z H os fs Γ t i j (direct H B x)
    runs (p_con {p = p} {k = k} {i = i} oc) ρ c h o e l lb lo kp =
        meets_pay B K H os fs (scalar k) p 1 (st (i + 1) c h (leaf_word k ∷ o) e l) h h (leaf_word k) (at_mark B K H os fs c h o e l oc) refl
        (omega arith) lb (omega arith) refl
        (λ le. record { sub = sub_refl h; val = record { holds = leaf_holds h k } })
    runs (p_group {p = p} {j = j} ce og) ρ c h o e l lb lo kp =
        meets_bind B K H os fs {r = 2} {y = 2} (omega arith) (omega arith) (omega arith) (runs ce ρ c h o e l lb lo kp)
        (λ d h' w v lb' lt q. meets_pay B K H os fs v p 1 (st (j + 1) d h' (w ∷ o) e l) h' h' w (at_mark B K H os fs d h' (w ∷ o) e l og) refl
        (omega arith) lb' (omega arith) refl (λ le. q))
    runs (p_var {p = p} {x = x} {i = i} oc) ρ c h o e l lb lo kp =
        meets_pay B K H os fs (look x ρ) p 1 (st (i + 1) c h (word e (index_of x) ∷ o) e l) h h (word e (index_of x))
        (at_mark B K H os fs c h o e l oc) refl (omega arith) lb (omega arith) refl
        (λ le. record { sub = sub_refl h; val = kept_look kp x })
    runs (p_bind {t = t} {p = p} {j = j} {k = k} ce ob cb ol) ρ c h o e l lb lo kp =
        meets_bind_step B K H os fs (omega arith) (omega arith) (omega arith) (omega arith) (runs ce ρ c h o e l lb lo kp)
        (λ d h' w v lb' lt q. (
          st (j + 1) d h' o (w ∷ e) l,
          at_mark B K H os fs d h' (w ∷ o) e l ob,
          meets_bind B K H os fs {r = 2} {y = 2} (omega arith) (omega arith) (omega arith)
              (runs cb (v, ρ) d h' o (w ∷ e) l lb' (omega arith) (with t w v q.val (kept_sub q.sub kp)))
              (λ d' h'' w' u lb'' lt' q'. meets_pay B K H os fs u p 1 (st (k + 1) d' h'' (w' ∷ o) e l) h'' h'' w'
              (at_mark B K H os fs d' h'' (w' ∷ o) (w ∷ e) l ol) refl (omega arith) lb'' (omega arith) refl
              (λ le. record { sub = sub_trans q.sub q'.sub; val = q'.val })),
        ))
    runs (p_prim {ts = ts} {t = t} {p = p} {o = f} {j = j} ca oc) ρ c h o e l lb lo kp =
        meets_bind B K H os fs (omega arith) (omega arith) (omega arith) (runs_all ca ρ c h o e l lb lo kp)
        (λ d h' o' vs lb' lt q. ran B K Z H os fs roomy lb' q.sub (at_mark B K H os fs d h' o' e l oc) (λ v. omega arith)
        (tasks ts t f vs p j d h' o o' e l q.all))
    runs (p_ite {Γ = Γ} {t = t} {p = p} {a = a} {b = b} {j = j} {k = k} {l = z} cx of eq ca oe cb oj) ρ c h o e l lb lo kp =
        meets_bind B K H os fs {r = 2} {y = 2} (omega arith) (omega arith) (omega arith) (runs cx ρ c h o e l lb lo kp)
        (λ d h' w t lb' lt q. chooses B K Z H os fs roomy k of d _ h' o e l w t _ lb' q.val.holds
        (ap (sizes_of h' e) eq ∙ sizes_free (kept_sub q.sub kp) (union Γ (free a) (free b)))
        (λ d' le lb''. either B K Z H os fs roomy {h = h} {h' = h'} {o = o} {e = e} {l = l} j (direct H B a ρ) (direct H B b ρ) t oe oj q.sub
        (runs ca ρ d' h' o e l lb'' (omega arith) (kept_sub q.sub kp)) (runs cb ρ d' h' o e l lb'' (omega arith) (kept_sub q.sub kp))))
    runs (p_each {Γ = Γ} {a = a} {u = u} {p = p} {f = f} {b = b} {j = j} {k = k} {l = z} cs of eq cf oi cb oj) ρ c h o e l lb lo kp =
        meets_bind B K H os fs {r = 2} {y = 2} (omega arith) (omega arith) (omega arith) (runs cs ρ c h o e l lb lo kp)
        (λ d h' w xs lb' lt q. forks B K Z H os fs roomy a of d _ h' o e l w xs _ lb' q.val.holds
        (ap (sizes_of h' e) eq ∙ sizes_free (kept_sub q.sub kp) (union Γ (free f).1 (free b).1))
        (λ d' le lb''. meets_bind B K H os fs {r = 0} {y = 0} (omega arith) (omega arith) (omega arith)
        (rows B K Z H os fs (direct H B f) (direct H B b) (runs cf) oi (runs cb) oj ρ xs q.val.holds.ws (suc (suc q.val.holds.p))
        (length xs) q.val.holds.p d' h' o e l w int_zero (count (length o))
        lb'' (omega arith) (kept_sub q.sub kp) q.val.holds.row.1.1 q.val.holds.each (begins a h' w xs q.val.holds))
        (λ d'' h'' r vs lb''' lt' q'. joins B K Z H os fs roomy oj d'' h h'' o e l w r vs lb''' (omega arith) (sub_trans q.sub q'.sub)
        q'.all)))
    runs (p_over {Γ = Γ} {a = a} {u = u} {p = p} {b = b} {j = j} {l = z} cs of eq cb oj) ρ c h o e l lb lo kp =
        meets_bind B K H os fs {r = 2} {y = 2} (omega arith) (omega arith) (omega arith) (runs cs ρ c h o e l lb lo kp)
        (λ d h' w xs lb' lt q. forks B K Z H os fs roomy a of d _ h' o e l w xs _ lb' q.val.holds
        (ap (sizes_of h' e) eq ∙ sizes_free (kept_sub q.sub kp) (free b).1)
        (λ d' le lb''. meets_bind B K H os fs {r = 0} {y = 0} (omega arith) (omega arith) (omega arith)
        (overs B K Z H os fs (direct H B b) (runs cb) oj ρ xs q.val.holds.ws (suc (suc q.val.holds.p)) (length xs)
        q.val.holds.p d' h' o e l w int_zero (count (length o))
        lb'' (omega arith) (kept_sub q.sub kp) q.val.holds.row.1.1 q.val.holds.each (begins a h' w xs q.val.holds))
        (λ d'' h'' r vs lb''' lt' q'. joins B K Z H os fs roomy oj d'' h h'' o e l w r vs lb''' (omega arith) (sub_trans q.sub q'.sub)
        q'.all)))

    pub runs_all : {Γ ts : List Ty} {xs : Args Γ ts} {i j : ℕ} → PlannedArgs os fs Γ ts xs i j → (ρ : Env Γ) (c : ℕ) (h o e l : List Int) →
        Good B K c h → length o ≤ Z + c → Kept h Γ e ρ →
        Meets B K H os fs 0 2 c (st i c h o e l) (after j e l) (LeftAll h ts o) (directs H B xs ρ c)
    runs_all p_nil ρ c h o e l lb lo kp = meets_ret B K H os fs h o refl lb (record { sub = sub_refl h; all = pushed_nil })
    runs_all (p_more {t = t} cx ca) ρ c h o e l lb lo kp =
        meets_bind B K H os fs (omega arith) (omega arith) (omega arith) (runs cx ρ c h o e l lb lo kp)
        (λ d h' w v lb' lt q. meets_bind B K H os fs {r = 0} {y = 2} (omega arith) (omega arith) (omega arith)
        (runs_all ca ρ d h' (w ∷ o) e l lb' (omega arith) (kept_sub q.sub kp))
        (λ d' h'' o'' vs lb'' lt' q'. meets_ret B K H os fs {z = 2} h'' o'' refl lb''
        (record { sub = sub_trans q.sub q'.sub; all = pushed_more t w v (word_sub q'.sub q.val) q'.all })))
