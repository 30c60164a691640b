-- Tasks that leave a list: in one block, or with a block for each element.
use Rattle.std.proofs.Common.{◌≡◌, ℕ, suc, ◌+◌, ◌*◌, ◌<◌, ◌≤◌, List, [], ◌∷◌, ◌++◌, length, refl, ap, arith, length-append}
use mathlib.Core.Option.{some}
use Rattle.monoid.specs.declared.int.Int.{Int}
use Rattle.monoid.specs.Segments.{concat}
use Rattle.types.specs.Types.{Ty, list}
use Rattle.lang.specs.Values.{Val, sum_by, size}
use Rattle.lang.specs.Layout.{count}
use Rattle.running.specs.Cells.{list_block, words_from, nested}
use Rattle.running.specs.Machine.{st, Step, pay}
use Rattle.running.specs.Words.{limit, Row, Each, Holds}
use Rattle.running.proofs.Holding.{Sub, sub_append, row_new, row_front, row_back, holds_sub, each_turn, each_length, new_list, list_few}
use Rattle.running.proofs.Doing.{Does, puts}

pub words_long : (p : ℕ) (bs : List (List Int)) → length (words_from p bs) ≡ length bs
words_long p [] = refl
words_long p (b ∷ bs) = ap suc (words_long (p + length b) bs)

-- a block that stands for a value, wherever it is put
abbrev pub Stored : List Int → (a : Ty) → List Int → Val a → Type 0
Stored h a b x = (k : List Int) (q : ℕ) → Sub h k → q < limit → size a x < limit → Row k q b → Holds k a (count q) x

-- blocks side by side: their words stand for their values
words_each : (h k : List Int) (a : Ty) (q : ℕ) (bs : List (List Int)) (xs : List (Val a)) → Sub h k → q + length (concat bs) < limit →
    sum_by (size a) xs < limit → Row k q (concat bs) →
    Each (Stored h a) bs xs → Each (Holds k a) (words_from q bs) xs
words_each h k a q [] [] s l m r ea = tt
words_each h k a q [] (x ∷ xs) s l m r ea = ea
words_each h k a q (b ∷ bs) [] s l m r ea = ea
words_each h k a q (b ∷ bs) (x ∷ xs) s l m r ea =
    let long : length (b ++ concat bs) ≡ length b + length (concat bs) = length-append b (concat bs) in (
      ea.0 k q s (omega arith) (omega arith) (row_front k q b (concat bs) r),
      words_each h k a (q + length b) bs xs s (omega arith) (omega arith) (row_back k q b (concat bs) r) ea.1,
    )

module _ (B : ℕ) (a : Ty) (k p i c : ℕ) (h o e l : List Int) (n : List (Val a) → ℕ) (s : Step) (xs : List (Val a)) where
  -- m is one less than the size of the result
  pub one_block : (m : ℕ) (ws : List Int) → m ≡ sum_by (size a) xs → suc m ≤ n xs → Each (Holds h a) ws xs →
      s ≡ pay B p (n xs) (st (i + 1) c (h ++ list_block m ws) (count (length h) ∷ o) e l) → Does B (list a) k p i c h o e l n s (some xs)
  one_block m ws em le ea es =
      let h' : List Int = h ++ list_block m ws in
      let sub : Sub h h' = sub_append h (list_block m ws) in
      let long : length h' ≡ length h + suc (suc (length ws)) = length-append h (list_block m ws) in
      let few : length ws ≤ m = omega (arith, each_length (Holds h a) ws xs ea, list_few a xs) in
      puts h' (count (length h)) sub (omega arith)
      (λ f. record {
        holds = new_list a h' (length h) m ws xs (omega (arith, f.cells)) (omega (arith, f.charge)) em (row_new h (list_block m ws))
            (each_turn (Holds h a) (Holds h' a) (holds_sub h h' sub a) ws xs ea);
      }) es

  pub many_blocks : (m : ℕ) (bs : List (List Int)) → m ≡ sum_by (size a) xs → m < n xs → length (nested (length h) m bs) ≤ 2 * n xs →
      Each (Stored h a) bs xs →
      s ≡ pay B p (n xs) (st (i + 1) c (h ++ nested (length h) m bs) (count (length h + length (concat bs)) ∷ o) e l) →
      Does B (list a) k p i c h o e l n s (some xs)
  many_blocks m bs em le grow ea es =
      let ws : List Int = words_from (length h) bs in
      let b : List Int = concat bs ++ list_block m ws in
      let h' : List Int = h ++ b in
      let sub : Sub h h' = sub_append h b in
      let long : length h' ≡ length h + length b = length-append h b in
      let long' : length b ≡ length (concat bs) + suc (suc (length ws)) = length-append (concat bs) (list_block m ws) in
      puts h' (count (length h + length (concat bs))) sub (omega arith)
      (λ f. record {
        holds = new_list a h' (length h + length (concat bs)) m ws xs (omega (arith, f.cells)) (omega (arith, f.charge)) em
            (row_back h' (length h) (concat bs) (list_block m ws) (row_new h b))
            (words_each h h' a (length h) bs xs sub (omega (arith, f.cells)) (omega (arith, f.charge))
            (row_front h' (length h) (concat bs) (list_block m ws) (row_new h b)) ea);
      }) es
