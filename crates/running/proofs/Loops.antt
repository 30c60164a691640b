-- The loops of comprehensions: each element in turn.
use Rattle.std.proofs.Common.{◌≡◌, ℕ, suc, ◌+◌, ◌-◌, ◌<◌, ◌≤◌, Bool, true, false, cond, List, [], ◌∷◌, ◌++◌, reverse, length, drop, sym, refl, ap, ◌∙◌, append_assoc, add-one, arith}
use mathlib.Core.Option.{some}
use Rattle.std.proofs.lemmas.List.{reverse-append}
use Rattle.std.proofs.lemmas.Bool.{cond-false}
use Rattle.monoid.specs.declared.int.Int.{Int}
use Rattle.monoid.specs.Ints.{is_zero}
use Rattle.types.specs.Types.{Ty, bool}
use Rattle.lang.specs.Values.{Val}
use Rattle.lang.specs.Layout.{flag, count}
use Rattle.rules.specs.Lists.{nth}
use Rattle.rules.specs.Environment.{Env}
use Rattle.rules.specs.Run.{Run, give, branch, each_run, keep_run, ◌>>=◌}
use Rattle.rules.specs.Joining.{HouseJoin}
use Rattle.plan.specs.declared.table.Mark.TheVariants.{EachFilter, EachJoin}
use Rattle.plan.specs.declared.table.Entry.{Entry}
use Rattle.plan.specs.declared.table.Free.{Free}
use Rattle.plan.specs.Boxes.{boxed}
use Rattle.plan.specs.Planned.{Stands}
use Rattle.running.specs.Cells.{word, place, long_at}
use Rattle.running.specs.Machine.{State, st, onto, step, advance}
use Rattle.running.specs.Words.{limit, Row, Each, Holds, Kept, with}
use Rattle.running.proofs.Counts.{place-count, some_count}
use Rattle.running.proofs.Holding.{Sub, sub_refl, sub_trans, word_sub, word-nth, kept_sub, row_sub, holds_sub, each_turn}
use Rattle.running.proofs.Meets.{Good, Meets, meets_bind, meets_bind_step, meets_step, meets_ret, meets_as, at_mark}
use Rattle.running.proofs.Forks.{Left, LeftRows, Rest, on_top, gathered}

-- the loop's list: n elements are left of m, and the next stands at the place q
pub record Looped (h : List Int) (u : Int) (i m n q : ℕ) : Type 0 where
  pub at : place u ≡ i
  pub long : nth h (suc i) ≡ some (count m)
  pub few : m < limit
  pub next : q + n ≡ i + 2 + m
  pub left : n ≤ m

looped_on : {h k : List Int} {u : Int} {i m n q : ℕ} → Sub h k → Looped h u i m (suc n) q → Looped k u i m n (suc q)
looped_on {i = i} {m = m} s r = record {
  at = r.at;
  long = s.kept (suc i) (count m) r.long;
  few = r.few;
  next = omega (arith, r.next);
  left = omega (arith, r.left);
}

module _ (B K Z : ℕ) (H : HouseJoin) (os : List Entry) (fs : List Free) where
  -- an expression of type t, from the place i to j: what it does for any charges and stacks
  abbrev pub Piece : (Γ : List Ty) (t : Ty) → ℕ → ℕ → (Env Γ → Run (Val t)) → Type 0
  Piece Γ t i j r =
      (ρ : Env Γ) (c : ℕ) (h o e l : List Int) → Good B K c h → length o ≤ Z + c → Kept h Γ e ρ →
      Meets B K H os fs 2 2 c (st i c h o e l) (on_top j o e l) (Left h t) (r ρ c)

  -- the join with elements left: the next becomes the variable
  next : {p j z : ℕ} {x : Bool} → Stands os z (EachJoin j x) p → (c i m n q : ℕ) (h s e l : List Int) (u y b w : Int) → Looped h u i m (suc n) q →
      nth h q ≡ some w →
      step B H os fs (st z c h s (y ∷ e) (u ∷ count (suc n) ∷ b ∷ l)) ≡ onto (st j c h s (w ∷ e) (u ∷ count n ∷ b ∷ l))
  next {j = j} {z = z} oj c i m n q h s e l u y b w r ew =
      let few : suc n < limit = omega (arith, r.left, r.few) in
      let whole : long_at h u ≡ m = ap (λ v. place (word h (v + 1))) r.at ∙ ap (λ v. place (word h v)) (add-one i) ∙
      ap place (word-nth h (suc i) (count m) r.long) ∙ place-count m r.few in
      let there : place u + 2 + (long_at h u - suc n) ≡ q = omega (arith, r.at, r.next, r.left) in
      let one : suc n - 1 ≡ n = omega arith in
      at_mark B K H os fs c h s (y ∷ e) (u ∷ count (suc n) ∷ b ∷ l) oj ∙
      cond-false _ _ _ (some_count n few) ∙
      ap (λ k. advance j k (st z c h s (y ∷ e) (u ∷ count (suc n) ∷ b ∷ l))) (place-count (suc n) few) ∙
      ap (λ v. onto (st j c h s (word h v ∷ e) (u ∷ count (suc n - 1) ∷ b ∷ l))) there ∙
      ap (λ v. onto (st j c h s (v ∷ e) (u ∷ count (suc n - 1) ∷ b ∷ l))) (word-nth h q w ew) ∙
      ap (λ v. onto (st j c h s (w ∷ e) (u ∷ count v ∷ b ∷ l))) one

  -- an element's result, and those of the rest
  yields : {u : Ty} {z c : ℕ} {m : State} (r : ℕ) → r ≤ 2 → (x : Run (Val u)) (R : Run (List (Val u))) (h s e f l : List Int) (a b : Int) →
      length s ≤ Z + c →
      Meets B K H os fs 2 2 c m (on_top z s e f) (Left h u) (x c) →
      ((d : ℕ) (h' s' : List Int) → Good B K d h' → length s' ≤ Z + d → Sub h h' →
      Meets B K H os fs 0 0 d (st z d h' s' e f) (gathered z s' (drop 1 e) a b l) (LeftRows h' u) (R d)) →
      Meets B K H os fs r r c m (gathered z s (drop 1 e) a b l) (LeftRows h u) ((x >>= λ y. R >>= λ ys. give (y ∷ ys)) c)
  yields {z = z} r le x R h s e f l a b lo px pr =
      meets_bind B K H os fs (omega arith) (omega arith) (omega arith) px
      (λ d h' w y lb lt q. meets_bind B K H os fs {r = 0} {y = 0} (omega arith) (omega arith) (omega arith)
      (pr d h' (w ∷ s) lb (omega arith) q.sub)
      (λ d' k r ys lb' lt' q'. meets_ret B K H os fs {z = 0} k (record { rs = w ∷ r.rs; y = r.y })
      (ap (λ o. st z d' k o (r.y ∷ drop 1 e) (a ∷ count 0 ∷ b ∷ l))
      (sym (ap (λ o. o ++ s) (reverse-append (w ∷ []) r.rs) ∙ append_assoc (reverse r.rs) (w ∷ []) s))) lb'
      (record { sub = sub_trans q.sub q'.sub; all = ((word_sub q'.sub q.val).holds, q'.all) })))

  rows_as : {u : Ty} {s z c : ℕ} {m : State} {h h' : List Int} {out : ℕ → List Int → Rest → State} {w : _} → Sub h h' →
      Meets B K H os fs s z c m out (LeftRows h' u) w → Meets B K H os fs s z c m out (LeftRows h u) w
  rows_as sub r = meets_as B K H os fs r (λ k r ys q. record { sub = sub_trans sub q.sub; all = q.all })

  -- after the test of an element: its result and those of the rest, or those of the rest
  filtered : {u : Ty} {q k z : ℕ} (x : Run (Val u)) (R : Run (List (Val u))) (h s e f l : List Int) (a b : Int) → Stands os k (EachFilter z) q →
      ((d : ℕ) (h' : List Int) → Good B K d h' → length s ≤ Z + d → Sub h h' →
      Meets B K H os fs 2 2 d (st (k + 1) d h' s e f) (on_top z s e f) (Left h' u) (x d)) →
      ((d : ℕ) (h' s' : List Int) → Good B K d h' → length s' ≤ Z + d → Sub h h' →
      Meets B K H os fs 0 0 d (st z d h' s' e f) (gathered z s' (drop 1 e) a b l) (LeftRows h' u) (R d)) →
      (d : ℕ) (h' : List Int) (v : Int) (t : Bool) → Good B K d h' → length s ≤ Z + d → Sub h h' → v ≡ flag t →
      (m' : State) × (step B H os fs (st k d h' (v ∷ s) e f) ≡ onto m') ×
      Meets B K H os fs 0 0 d m' (gathered z s (drop 1 e) a b l) (LeftRows h u) (branch t (x >>= λ y. R >>= λ ys. give (y ∷ ys)) R d)
  filtered {k = k} {z = z} x R h s e f l a b oi px pr d h' v true lb lo sub ev = (
    st (k + 1) d h' s e f,
    at_mark B K H os fs d h' (v ∷ s) e f oi ∙ ap (λ w. onto (st (cond (is_zero w) z (k + 1)) d h' s e f)) ev,
    rows_as sub (yields 0 (omega arith) x R h' s e f l a b lo (px d h' lb lo sub)
        (λ d' h'' s' lb' lo' sub'. pr d' h'' s' lb' lo' (sub_trans sub sub'))),
  )
  filtered {k = k} {z = z} x R h s e f l a b oi px pr d h' v false lb lo sub ev = (
    st z d h' s e f,
    at_mark B K H os fs d h' (v ∷ s) e f oi ∙ ap (λ w. onto (st (cond (is_zero w) z (k + 1)) d h' s e f)) ev,
    rows_as sub (pr d h' s lb lo sub),
  )

  -- each element in turn, and its result where its test is true
  pub rows : {Γ : List Ty} {a u : Ty} {p q j k z : ℕ} (f : Env (a ∷ Γ) → Run Bool) (g : Env (a ∷ Γ) → Run (Val u)) →
      Piece (a ∷ Γ) bool j k f → Stands os k (EachFilter z) q → Piece (a ∷ Γ) u (k + 1) z g → Stands os z (EachJoin j (boxed u)) p →
      (ρ : Env Γ) (xs : List (Val a)) (ws : List Int) (n m i c : ℕ) (h s e l : List Int) (w y b : Int) → Good B K c h → length s ≤ Z + c →
      Kept h Γ e ρ → Row h n ws → Each (Holds h a) ws xs →
      Looped h w i m (length xs) n →
      Meets B K H os fs 0 0 c (st z c h s (y ∷ e) (w ∷ count (length xs) ∷ b ∷ l)) (gathered z s e w b l) (LeftRows h u)
      (keep_run (λ x. f (x, ρ)) (λ x. g (x, ρ)) xs c)
  rows f g pf oi pb oj ρ [] [] n m i c h s e l v y b lb lo kp r ea lp =
      meets_ret B K H os fs h (record { rs = []; y = y }) refl lb (record { sub = sub_refl h; all = tt })
  rows f g pf oi pb oj ρ [] (w ∷ ws) n m i c h s e l v y b lb lo kp r ea lp = absurd ea
  rows f g pf oi pb oj ρ (x ∷ xs) [] n m i c h s e l v y b lb lo kp r ea lp = absurd ea
  rows {a = a} {j = j} f g pf oi pb oj ρ (x ∷ xs) (w ∷ ws) n m i c h s e l v y b lb lo kp r ea lp =
      let L : List Int = v ∷ count (length xs) ∷ b ∷ l in
      let kx : Kept h (a ∷ _) (w ∷ e) (x, ρ) = with a w x (record { holds = ea.0 }) kp in
      meets_step B K H os fs (st j c h s (w ∷ e) L) {r = 0} {y = 0} (omega arith) (omega arith)
      (next oj c i m (length xs) n h s e l v y b w lp r.0)
      (meets_bind_step B K H os fs {r = 1} {y = 1} (omega arith) (omega arith) (omega arith) (omega arith) (pf (x, ρ) c h s (w ∷ e) L lb lo kx)
      (λ d h' t b' lb' lt q. filtered (g (x, ρ)) (keep_run (λ x. f (x, ρ)) (λ x. g (x, ρ)) xs) h s (w ∷ e) L l v b oi
      (λ d h' lb lo sub. pb (x, ρ) d h' s (w ∷ e) L lb lo (kept_sub sub kx))
      (λ d h' s' lb lo sub. rows f g pf oi pb oj ρ xs ws (suc n) m i d h' s' e l v w b lb lo (kept_sub sub kp)
      (row_sub h h' sub (suc n) ws r.1)
      (each_turn (Holds h a) (Holds h' a) (holds_sub h h' sub a) ws xs ea.1) (looped_on sub lp))
      d h' t b' lb' (omega arith) q.sub q.val.holds))

  -- each element in turn, with no test
  pub overs : {Γ : List Ty} {a u : Ty} {p j z : ℕ} (g : Env (a ∷ Γ) → Run (Val u)) → Piece (a ∷ Γ) u j z g → Stands os z (EachJoin j (boxed u)) p →
      (ρ : Env Γ) (xs : List (Val a)) (ws : List Int) (n m i c : ℕ) (h s e l : List Int) (w y b : Int) → Good B K c h → length s ≤ Z + c →
      Kept h Γ e ρ → Row h n ws → Each (Holds h a) ws xs →
      Looped h w i m (length xs) n →
      Meets B K H os fs 0 0 c (st z c h s (y ∷ e) (w ∷ count (length xs) ∷ b ∷ l)) (gathered z s e w b l) (LeftRows h u)
      (each_run (λ x. g (x, ρ)) xs c)
  overs g pb oj ρ [] [] n m i c h s e l v y b lb lo kp r ea lp =
      meets_ret B K H os fs h (record { rs = []; y = y }) refl lb (record { sub = sub_refl h; all = tt })
  overs g pb oj ρ [] (w ∷ ws) n m i c h s e l v y b lb lo kp r ea lp = absurd ea
  overs g pb oj ρ (x ∷ xs) [] n m i c h s e l v y b lb lo kp r ea lp = absurd ea
  overs {a = a} {j = j} g pb oj ρ (x ∷ xs) (w ∷ ws) n m i c h s e l v y b lb lo kp r ea lp =
      let L : List Int = v ∷ count (length xs) ∷ b ∷ l in
      let kx : Kept h (a ∷ _) (w ∷ e) (x, ρ) = with a w x (record { holds = ea.0 }) kp in
      meets_step B K H os fs (st j c h s (w ∷ e) L) {r = 0} {y = 0} (omega arith) (omega arith)
      (next oj c i m (length xs) n h s e l v y b w lp r.0)
      (yields 1 (omega arith) (g (x, ρ)) (each_run (λ x. g (x, ρ)) xs) h s (w ∷ e) L l v b lo (pb (x, ρ) c h s (w ∷ e) L lb lo kx)
      (λ d h' s' lb lo sub. overs g pb oj ρ xs ws (suc n) m i d h' s' e l v w b lb lo (kept_sub sub kp) (row_sub h h' sub (suc n) ws r.1)
      (each_turn (Holds h a) (Holds h' a) (holds_sub h h' sub a) ws xs ea.1) (looped_on sub lp)))
