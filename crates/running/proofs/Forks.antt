-- The marks of forks and joins, and a primitive whose operands are done.
use Rattle.std.proofs.Common.{◌≡◌, ℕ, suc, ◌+◌, ◌-◌, ◌*◌, ◌<◌, ◌≤◌, Bool, true, false, cond, List, ◌∷◌, ◌++◌, reverse, length, take, drop, refl, ap, ◌∙◌, arith, length-append}
use mathlib.Core.Option.{Option}
use Rattle.std.proofs.lemmas.List.{reverse-reverse, take_at, drop_at}
use Rattle.std.proofs.lemmas.Bool.{cond-true}
use Rattle.monoid.specs.declared.int.Int.{Int}
use Rattle.monoid.specs.Ints.{int_zero, is_zero}
use Rattle.types.specs.Types.{Ty, list}
use Rattle.lang.specs.Values.{Val, sum_by, size}
use Rattle.lang.specs.Layout.{flag, count}
use Rattle.rules.specs.Environment.{Env}
use Rattle.rules.specs.Outcome.{refusal}
use Rattle.rules.specs.Run.{Run, go, charge, branch, test}
use Rattle.rules.specs.Joining.{HouseJoin}
use Rattle.plan.specs.declared.table.Mark.TheVariants.{IfFork, IfElse, IfJoin, EachFork, EachJoin}
use Rattle.plan.specs.declared.table.Entry.{Entry}
use Rattle.plan.specs.declared.table.Free.{Free}
use Rattle.plan.specs.declared.table.Span.{Span}
use Rattle.plan.specs.Boxes.{boxed, part}
use Rattle.plan.specs.Planned.{Stands}
use Rattle.running.specs.Cells.{size_at, long_at, list_block, sizes_of}
use Rattle.running.specs.Machine.{State, st, Step, step, pay, gather}
use Rattle.running.specs.Words.{limit, Each, Holds, Word}
use Rattle.running.proofs.Counts.{place-count, count_none}
use Rattle.running.proofs.Holding.{Sub, sub_trans, sub_append, row_new, holds_sub, each_turn, each_length, new_list, size-at, sizes_each, list_few, list_long}
use Rattle.running.proofs.Meets.{Good, Meets, fails, meets_bind, meets_bind_step, meets_pay, meets_pay-then, at_mark, stops_one}
use Rattle.running.proofs.Doing.{Pushed, Does, refuses, puts}

-- what an expression leaves: more cells, and its value's word
pub record Left (h : List Int) (t : Ty) (h' : List Int) (w : Int) (v : Val t) : Type 0 where
  pub sub : Sub h h'
  pub val : Word h' t w v

pub record LeftAll (h : List Int) (ts : List Ty) (o h' o' : List Int) (vs : Env ts) : Type 0 where
  pub sub : Sub h h'
  pub all : Pushed h' ts o vs o'

-- how a comprehension's loop ends: the results' words, the variable's last word
pub record Rest : Type 0 where
  pub rs : List Int
  pub y : Int

pub record LeftRows (h : List Int) (u : Ty) (h' : List Int) (r : Rest) (vs : List (Val u)) : Type 0 where
  pub sub : Sub h h'
  pub all : Each (Holds h' u) r.rs vs

abbrev pub on_top : ℕ → List Int → List Int → List Int → ℕ → List Int → Int → State
on_top j o e l d h w = st j d h (w ∷ o) e l

abbrev pub after : ℕ → List Int → List Int → ℕ → List Int → List Int → State
after j e l d h o = st j d h o e l

abbrev pub gathered : ℕ → List Int → List Int → Int → Int → List Int → ℕ → List Int → Rest → State
gathered j q e a b l d h r = st j d h (reverse r.rs ++ q) (r.y ∷ e) (a ∷ count 0 ∷ b ∷ l)

-- there are words for all places that a run comes to
pub record Roomy (B K Z : ℕ) : Type 0 where
  pub cells : K + 2 * B < limit
  pub deep : Z + B < limit

turned : (t : Bool) (m n : ℕ) → cond (is_zero (flag t)) n m ≡ cond t m n
turned true m n = refl
turned false m n = refl

module _ (B K Z : ℕ) (H : HouseJoin) (os : List Entry) (fs : List Free) (roomy : Roomy B K Z) where
  -- the join: the results that stand above the base become a list
  pub joins : {u : Ty} {p j z : ℕ} → Stands os z (EachJoin j (boxed u)) p → (d : ℕ) (h h' o e l : List Int) (a : Int) (r : Rest) (vs : List (Val u)) →
      Good B K d h' → length o ≤ Z + d → Sub h h' → Each (Holds h' u) r.rs vs →
      Meets B K H os fs 2 2 d (gathered z o e a (count (length o)) l d h' r) (on_top (z + 1) o e l) (Left h (list u))
      (charge B p (1 + size (list u) vs) vs d)
  joins {u = u} {p = p} {j = j} {z = z} oj d h h' o e l a r vs lb lo sub ea =
      let n : ℕ = sum_by (size u) vs in
      let m : List Int = list_block n r.rs in
      let base : length o < limit = omega (arith, lb.paid, roomy.deep) in
      let many : length (reverse r.rs ++ o) - length o ≡ length (reverse r.rs) = simp length-append (omega arith) in
      let back : reverse (take (length (reverse r.rs)) (reverse r.rs ++ o)) ≡ r.rs = ap reverse (take_at (reverse r.rs) o _ refl) ∙
      reverse-reverse r.rs in
      let few : length r.rs ≤ n = omega (arith, each_length (Holds h' u) r.rs vs ea, list_few u vs) in
      let L : List Int = a ∷ count 0 ∷ count (length o) ∷ l in
      let M : State = st z d h' (reverse r.rs ++ o) (r.y ∷ e) L in
      let grown : length (h' ++ m) ≤ length h' + 2 * (1 + (1 + n)) = simp length-append (omega arith) in
      meets_pay B K H os fs vs p (1 + (1 + n)) (st (z + 1) d (h' ++ m) (count (length h') ∷ o) e l) h' (h' ++ m) (count (length h'))
      (at_mark B K H os fs d h' (reverse r.rs ++ o) (r.y ∷ e) L oj ∙
      cond-true _ _ _ (ap is_zero count_none) ∙
      ap (λ i. gather B (boxed u) (length (reverse r.rs ++ o) - i) p M) (place-count (length o) base) ∙
      ap (λ i. gather B (boxed u) i p M) many ∙
      ap (λ ws. pay B p (1 + (1 + sum_by (size_at h' (boxed u)) ws))
      (st (z + 1) d (h' ++ list_block (sum_by (size_at h' (boxed u)) ws) ws)
      (count (length h') ∷ drop (length (reverse r.rs)) (reverse r.rs ++ o)) e l)) back ∙
      ap (λ i. pay B p (1 + (1 + i)) (st (z + 1) d (h' ++ list_block i r.rs)
      (count (length h') ∷ drop (length (reverse r.rs)) (reverse r.rs ++ o)) e l)) (sizes_each h' u r.rs vs ea) ∙
      ap (λ q. pay B p (1 + (1 + n)) (st (z + 1) d (h' ++ m) (count (length h') ∷ q) e l)) (drop_at (reverse r.rs) o _ refl))
      refl (omega arith) lb grown refl
      (λ le. record {
        sub = sub_trans sub (sub_append h' m);
        val = record {
          holds =
              new_list u (h' ++ m) (length h') n r.rs vs (omega (arith, lb.cells, roomy.cells)) (omega (arith, roomy.cells)) refl (row_new h' m)
              (each_turn (Holds h' u) (Holds (h' ++ m) u) (holds_sub h' (h' ++ m) (sub_append h' m) u) r.rs vs ea);
        };
      })

  -- the fork of a comprehension: its charge, and what comes after it
  pub forks : {A Y : Type 0} (a : Ty) {p j z : ℕ} {s : Span} {out : ℕ → List Int → A → State} {Q : List Int → A → Y → Type 0} →
      Stands os j (EachFork z s) p →
      (d n : ℕ) (h o e l : List Int) (w : Int) (xs : List (Val a)) (f : List (Val a) → Run Y) → Good B K d h → (r : Holds h (list a) w xs) →
      sizes_of h e (part fs s) ≡ n →
      ((d' : ℕ) → d ≤ d' → Good B K d' h → Meets B K H os fs 0 0 d' (st z d' h o (int_zero ∷ e) (w ∷ count (length xs) ∷ count (length o) ∷ l)) out Q
      (f xs d')) →
      Meets B K H os fs 2 2 d (st j d h (w ∷ o) e l) out Q (go (charge B p (1 + size (list a) xs + suc (length xs) * n) xs d) f)
  forks a {p = p} {z = z} {s = s} of d n h o e l w xs f lb r eq k =
      meets_pay-then B K H os fs xs f p (1 + size (list a) xs + suc (length xs) * n)
      (st z d h o (int_zero ∷ e) (w ∷ count (length xs) ∷ count (length o) ∷ l))
      (at_mark B K H os fs d h (w ∷ o) e l of ∙
      ap (λ i. pay B p (1 + i + suc (long_at h w) * sizes_of h e (part fs s))
      (st z d h o (int_zero ∷ e) (w ∷ count (long_at h w) ∷ count (length o) ∷ l))) (size-at h (list a) w xs r) ∙
      ap (λ i. pay B p (1 + size (list a) xs + suc i * sizes_of h e (part fs s)) (st z d h o (int_zero ∷ e) (w ∷ count i ∷ count (length o) ∷ l)))
      (list_long a h w xs r) ∙
      ap (λ i. pay B p (1 + size (list a) xs + suc (length xs) * i) (st z d h o (int_zero ∷ e) (w ∷ count (length xs) ∷ count (length o) ∷ l))) eq)
      refl (omega arith) lb (λ le. k (d + (1 + size (list a) xs + suc (length xs) * n)) (omega arith) le)

  -- the fork of an `if`: its charge, and the branch that is taken
  pub chooses : {Y : Type 0} {A : Type 0} (k : ℕ) {p j : ℕ} {s : Span} {out : ℕ → List Int → A → State} {Q : List Int → A → Y → Type 0} →
      Stands os j (IfFork (k + 1) s) p →
      (d n : ℕ) (h o e l : List Int) (w : Int) (t : Bool) (f : Bool → Run Y) → Good B K d h → w ≡ flag t → sizes_of h e (part fs s) ≡ n →
      ((d' : ℕ) → d ≤ d' → Good B K d' h → Meets B K H os fs 0 0 d' (st (cond t (j + 1) (k + 1)) d' h o e l) out Q (f t d')) →
      Meets B K H os fs 2 2 d (st j d h (w ∷ o) e l) out Q (go (charge B p (1 + n) t d) f)
  chooses k {p = p} {j = j} of d n h o e l w t f lb ew eq c =
      meets_pay-then B K H os fs t f p (1 + n) (st (cond t (j + 1) (k + 1)) d h o e l)
      (at_mark B K H os fs d h (w ∷ o) e l of ∙
      ap (λ i. pay B p (1 + i) (st (cond (is_zero w) (k + 1) (j + 1)) d h o e l)) eq ∙
      ap (λ v. pay B p (1 + n) (st (cond (is_zero v) (k + 1) (j + 1)) d h o e l)) ew ∙
      ap (λ i. pay B p (1 + n) (st i d h o e l)) (turned t (j + 1) (k + 1)))
      refl (omega arith) lb (λ le. c (d + (1 + n)) (omega arith) le)

  -- the join of an `if`
  pub ends : {t : Ty} {p z : ℕ} → Stands os z (IfJoin (boxed t)) p → (d : ℕ) (h h' o e l : List Int) (w : Int) (v : Val t) → Good B K d h' →
      Left h t h' w v →
      Meets B K H os fs 2 2 d (st z d h' (w ∷ o) e l) (on_top (z + 1) o e l) (Left h t) (charge B p (1 + size t v) v d)
  ends {t = t} {p = p} {z = z} oj d h h' o e l w v lb q =
      meets_pay B K H os fs v p (1 + size t v) (st (z + 1) d h' (w ∷ o) e l) h' h' w
      (at_mark B K H os fs d h' (w ∷ o) e l oj ∙ ap (λ i. pay B p (1 + i) (st (z + 1) d h' (w ∷ o) e l)) (size-at h' t w v q.val.holds))
      refl (omega arith) lb (omega arith) refl (λ le. q)

  -- the branch that is taken, and the join
  pub either : {t : Ty} {p q k z d : ℕ} {h h' o e l : List Int} (j : ℕ) (x y : Run (Val t)) (b : Bool) → Stands os k (IfElse z) q →
      Stands os z (IfJoin (boxed t)) p → Sub h h' →
      Meets B K H os fs 2 2 d (st (j + 1) d h' o e l) (on_top k o e l) (Left h' t) (x d) →
      Meets B K H os fs 2 2 d (st (k + 1) d h' o e l) (on_top z o e l) (Left h' t) (y d) →
      Meets B K H os fs 0 0 d (st (cond b (j + 1) (k + 1)) d h' o e l) (on_top (z + 1) o e l) (Left h t)
      (go (branch b x y d) (λ v. charge B p (1 + size t v) v))
  either {z = z} {h = h} {o = o} {e = e} {l = l} j x y true oe oj sub mx my =
      meets_bind_step B K H os fs (omega arith) (omega arith) (omega arith) (omega arith) mx
      (λ d h'' w v lb lt q. (
        st z d h'' (w ∷ o) e l,
        at_mark B K H os fs d h'' (w ∷ o) e l oe,
        ends oj d h h'' o e l w v lb (record { sub = sub_trans sub q.sub; val = q.val }),
      ))
  either {h = h} {o = o} {e = e} {l = l} j x y false oe oj sub mx my =
      meets_bind B K H os fs (omega arith) (omega arith) (omega arith) my
      (λ d h'' w v lb lt q. ends oj d h h'' o e l w v lb (record { sub = sub_trans sub q.sub; val = q.val }))

  -- a primitive, its operands done
  pub ran : {t : Ty} {k p i d : ℕ} {h h' o e l : List Int} {n : Val t → ℕ} {s : Step} {m : State} {w : Option (Val t)} → Good B K d h' → Sub h h' →
      step B H os fs m ≡ s → ((v : Val t) → 1 ≤ n v) →
      Does B t k p i d h' o e l n s w → Meets B K H os fs 2 2 d m (on_top (i + 1) o e l) (Left h t)
      (go (test (refusal k p) w d) (λ v. charge B p (n v) v))
  ran {m = m} lb sub es one (refuses e) = fails 1 (stops_one B K H os fs m _ (es ∙ e)) (omega (arith, lb.paid))
  ran {p = p} {i = i} {d = d} {h' = h'} {o = o} {e = e} {l = l} {n = n} lb sub es one (puts {v = v} k w sub' grow val eq) =
      meets_pay B K H os fs v p (n v) (st (i + 1) d k (w ∷ o) e l) h' k w (es ∙ eq) refl (one v) lb grow refl
      (λ le. record {
        sub = sub_trans sub sub';
        val = val
            (record { cells = omega (arith, lb.cells, roomy.cells, grow); charge = omega (arith, roomy.cells) });
      })
