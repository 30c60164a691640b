-- Tasks that make no list: signs, pairs and their halves, indices and lengths.
use Rattle.std.proofs.Common.{◌≡◌, ℕ, suc, ◌+◌, ◌-◌, ◌<◌, ◌≤◌, true, cond, ltb, List, [], ◌∷◌, ◌++◌, length, ℤ, pos, negsuc, sym, refl, ap, ◌∙◌, subst, add-one, arith, length-append}
use mathlib.Core.Option.{Option, none, some}
use Rattle.std.proofs.lemmas.Bool.{lt-ltb, le-ltb, cond-true, cond-false}
use Rattle.monoid.specs.declared.int.Int.{Int}
use Rattle.types.specs.Types.{Ty, int, pair, list}
use Rattle.grammar.specs.declared.occurrence.Infix.{Infix}
use Rattle.grammar.specs.declared.occurrence.Infix.TheVariants.{Add, Subtract, Multiply, Divide, Remainder, Same, Less}
use Rattle.lang.specs.Values.{Val, size}
use Rattle.lang.specs.Expr.{answers}
use Rattle.lang.specs.Layout.{count}
use Rattle.rules.specs.Lists.{nth}
use Rattle.rules.specs.Arithmetic.{infix_of, many}
use Rattle.rules.specs.Primitives.{at, infix_failure}
use Rattle.rules.specs.Charges.{prim_charge}
use Rattle.plan.specs.Boxes.{boxed}
use Rattle.running.specs.Cells.{word, place, size_at, long_at, pair_block}
use Rattle.running.specs.Machine.{st, stop, pay, tried, answer_word, do_operate, do_pair, do_half, do_index, do_length, inside, refuse}
use Rattle.running.specs.Words.{Holds}
use Rattle.running.proofs.Counts.{place_of}
use Rattle.running.proofs.Holding.{Sub, sub_refl, sub_append, row_new, holds_sub, word-nth, new_pair, size_some, size-at, list_length, list_long, each_nth, nth_in, nth_out}
use Rattle.running.proofs.Doing.{Does, refuses, puts}

answer_holds : (h : List Int) (o : Infix) (v : Val (answers o)) → Holds h (answers o) (answer_word o v) v
answer_holds h Add v = refl
answer_holds h Subtract v = refl
answer_holds h Multiply v = refl
answer_holds h Divide v = refl
answer_holds h Remainder v = refl
answer_holds h Same v = refl
answer_holds h Less v = refl

answer_size : (o : Infix) (v : Val (answers o)) → size (answers o) v ≡ 1
answer_size Add v = refl
answer_size Subtract v = refl
answer_size Multiply v = refl
answer_size Divide v = refl
answer_size Remainder v = refl
answer_size Same v = refl
answer_size Less v = refl

module _ (B p i c : ℕ) (h o e l : List Int) where
  answered : (f : Infix) (a b : Int) (w : Option (Val (answers f))) →
      Does B (answers f) (infix_failure f) p i c h o e l (λ z. prim_charge (int ∷ int ∷ []) (answers f) (a, (b, tt)) z)
      (tried (infix_failure f) p w (λ v. pay B p 4 (st (i + 1) c h (answer_word f v ∷ o) e l))) w
  answered f a b none = refuses refl
  answered f a b (some v) =
      puts h (answer_word f v) (sub_refl h) (omega arith) (λ q. record { holds = answer_holds h f v })
      (ap (λ n. pay B p n (st (i + 1) c h (answer_word f v ∷ o) e l)) (omega (arith, answer_size f v)))

  pub operates : (f : Infix) (u v a b : Int) → u ≡ a → v ≡ b →
      Does B (answers f) (infix_failure f) p i c h o e l (λ z. prim_charge (int ∷ int ∷ []) (answers f) (a, (b, tt)) z)
      (do_operate B f p (st i c h (v ∷ u ∷ o) e l)) (infix_of f a b)
  operates f u v a b eu ev =
      subst (λ u. Does B (answers f) (infix_failure f) p i c h o e l (λ z. prim_charge (int ∷ int ∷ []) (answers f) (a, (b, tt)) z)
      (do_operate B f p (st i c h (v ∷ u ∷ o) e l)) (infix_of f a b)) (sym eu)
      (subst (λ v. Does B (answers f) (infix_failure f) p i c h o e l (λ z. prim_charge (int ∷ int ∷ []) (answers f) (a, (b, tt)) z)
      (do_operate B f p (st i c h (v ∷ a ∷ o) e l)) (infix_of f a b)) (sym ev)
      (answered f a b (infix_of f a b)))

  pub pairs : (a b : Ty) (u v : Int) (x : Val a) (y : Val b) → Holds h a u x → Holds h b v y →
      Does B (pair a b) 0 p i c h o e l (λ z. prim_charge (a ∷ b ∷ []) (pair a b) (x, (y, tt)) z)
      (do_pair B (boxed a) (boxed b) p (st i c h (v ∷ u ∷ o) e l)) (some (x, y))
  pairs a b u v x y hx hy =
      let n : ℕ = size_at h (boxed a) u + size_at h (boxed b) v in
      let d : List Int = pair_block (n - 1) u v in
      let h' : List Int = h ++ d in
      let ea : size_at h (boxed a) u ≡ size a x = size-at h a u x hx in
      let eb : size_at h (boxed b) v ≡ size b y = size-at h b v y hy in
      let sa : 1 ≤ size a x = size_some a x in
      let s : Sub h h' = sub_append h d in
      let long : length h' ≡ length h + 3 = length-append h d in
      puts h' (count (length h)) s (omega arith)
      (λ f. record {
        holds = new_pair a b h' (length h) (n - 1) u v x y (omega (arith, f.cells)) (omega (arith, f.charge)) (omega arith)
            (row_new h d) (holds_sub h h' s a u x hx) (holds_sub h h' s b v y hy);
      })
      (ap (λ k. pay B p k (st (i + 1) c h' (count (length h) ∷ o) e l)) (omega arith))

  halves : (a : Ty) (k m : ℕ) (u : Int) (x : Val a) → size_at h true u ≡ m → Holds h a (word h (place u + k)) x → (n : Val a → ℕ) →
      1 + m + size a x ≡ n x →
      Does B a 0 p i c h o e l n (do_half B k (boxed a) p (st i c h (u ∷ o) e l)) (some x)
  halves a k m u x eu hw n en =
      let w : Int = word h (place u + k) in
      let es : size_at h (boxed a) w ≡ size a x = size-at h a w x hw in
      puts h w (sub_refl h) (omega arith) (λ f. record { holds = hw }) (ap (λ j. pay B p j (st (i + 1) c h (w ∷ o) e l)) (omega arith))

  pub firsts : (a b : Ty) (u : Int) (x : Val a) (y : Val b) → Holds h (pair a b) u (x, y) →
      Does B a 0 p i c h o e l (λ z. prim_charge (pair a b ∷ []) a ((x, y), tt) z) (do_half B 1 (boxed a) p (st i c h (u ∷ o) e l)) (some x)
  firsts a b u x y r =
      let ew : word h (place u + 1) ≡ r.u = ap (λ q. word h (q + 1)) (place_of u r.p r.is r.there) ∙ ap (word h) (add-one r.p) ∙
      word-nth h (suc r.p) _ r.row.1.0 in
      halves a 1 (size a x + size b y) u x (size-at h (pair a b) u (x, y) r) (subst (λ z. Holds h a z x) (sym ew) r.left)
      (λ z. prim_charge (pair a b ∷ []) a ((x, y), tt) z) (omega arith)

  pub seconds : (a b : Ty) (u : Int) (x : Val a) (y : Val b) → Holds h (pair a b) u (x, y) →
      Does B b 0 p i c h o e l (λ z. prim_charge (pair a b ∷ []) b ((x, y), tt) z) (do_half B 2 (boxed b) p (st i c h (u ∷ o) e l)) (some y)
  seconds a b u x y r =
      let two : r.p + 2 ≡ suc (suc r.p) = omega arith in
      let ew : word h (place u + 2) ≡ r.v = ap (λ q. word h (q + 2)) (place_of u r.p r.is r.there) ∙ ap (word h) two ∙
      word-nth h (suc (suc r.p)) _ r.row.1.1.0 in
      halves b 2 (size a x + size b y) u y (size-at h (pair a b) u (x, y) r) (subst (λ z. Holds h b z y) (sym ew) r.right)
      (λ z. prim_charge (pair a b ∷ []) b ((x, y), tt) z) (omega arith)

  pub lengths : (a : Ty) (u : Int) (xs : List (Val a)) → Holds h (list a) u xs →
      Does B int 0 p i c h o e l (λ z. prim_charge (list a ∷ []) int (xs, tt) z) (do_length B p (st i c h (u ∷ o) e l)) (some (count (length xs)))
  lengths a u xs r =
      let eu : size_at h true u ≡ size (list a) xs = size-at h (list a) u xs r in
      puts h (word h (place u + 1)) (sub_refl h) (omega arith) (λ f. record { holds = list_length a h u xs r })
      (ap (λ k. pay B p k (st (i + 1) c h (word h (place u + 1) ∷ o) e l)) (omega arith))

  -- the index as a number
  indexed : (a : Ty) (u k : Int) (xs : List (Val a)) (z : ℤ) → Holds h (list a) u xs →
      Does B a 19 p i c h o e l (λ z. prim_charge (list a ∷ int ∷ []) a (xs, (k, tt)) z)
      (cond (inside z (long_at h u)) (pay B p (1 + (size_at h true u + 1) + size_at h (boxed a) (word h (place u + 2 + many z)))
      (st (i + 1) c h (word h (place u + 2 + many z) ∷ o) e l)) (stop (refuse 19 p))) (at xs z)
  indexed a u k xs (negsuc z) r = refuses refl
  indexed a u k xs (pos z) r = by (nth xs z) refl (list_long a h u xs r)
    where
      by : (m : Option (Val a)) → nth xs z ≡ m → long_at h u ≡ length xs →
          Does B a 19 p i c h o e l (λ z. prim_charge (list a ∷ int ∷ []) a (xs, (k, tt)) z)
          (cond (ltb z (long_at h u)) (pay B p (1 + (size_at h true u + 1) + size_at h (boxed a) (word h (place u + 2 + z)))
          (st (i + 1) c h (word h (place u + 2 + z) ∷ o) e l)) (stop (refuse 19 p))) m
      by none q long = let f : long_at h u ≤ z = omega (arith, long, nth_out xs z q) in refuses (cond-false _ _ _ (le-ltb _ _ f))
      by (some x) q long =
          let w : Int = word h (place u + 2 + z) in
          let two : suc (suc r.p) + z ≡ place u + 2 + z = omega (arith, place_of u r.p r.is r.there) in
          let hw : Holds h a w x = subst (λ n. Holds h a (word h n) x) two
          (each_nth (Holds h a) h (suc (suc r.p)) r.ws xs z x r.row.1.1 r.each q) in
          let eu : size_at h true u ≡ size (list a) xs = size-at h (list a) u xs r in
          let es : size_at h (boxed a) w ≡ size a x = size-at h a w x hw in
          let f : z < long_at h u = omega (arith, long, nth_in xs z x q) in
          puts h w (sub_refl h) (omega arith) (λ f. record { holds = hw })
          (cond-true _ _ _ (lt-ltb _ _ f) ∙ ap (λ n. pay B p n (st (i + 1) c h (w ∷ o) e l)) (omega arith))

  pub indices : (a : Ty) (u v k : Int) (xs : List (Val a)) → Holds h (list a) u xs → v ≡ k →
      Does B a 19 p i c h o e l (λ z. prim_charge (list a ∷ int ∷ []) a (xs, (k, tt)) z) (do_index B (boxed a) p (st i c h (v ∷ u ∷ o) e l))
      (at xs k.value)
  indices a u v k xs r ev =
      subst (λ v. Does B a 19 p i c h o e l (λ z. prim_charge (list a ∷ int ∷ []) a (xs, (k, tt)) z) (do_index B (boxed a) p (st i c h (v ∷ u ∷ o) e l))
      (at xs k.value)) (sym ev) (indexed a u k xs k.value r)
