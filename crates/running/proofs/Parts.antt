-- The task that cuts a list into lists.
use Rattle.std.proofs.Common.{◌≡◌, ℕ, suc, ◌+◌, ◌*◌, ◌≤◌, Bool, true, false, ◌&&◌, List, [], ◌∷◌, ◌++◌, map, length, pos, sym, refl, ap, ◌∙◌, subst, arith, length-append}
use lib.Signed.{non_neg}
use Rattle.std.proofs.lemmas.List.{length-map, map-id}
use Rattle.monoid.specs.declared.int.Int.{Int}
use Rattle.monoid.specs.Ints.{exact_sum}
use Rattle.monoid.specs.Segments.{concat, cut}
use Rattle.monoid.proofs.Segments.{length_cut}
use Rattle.types.specs.Types.{Ty, int, list}
use Rattle.lang.specs.Values.{Val, sum_by, size}
use Rattle.lang.specs.Layout.{count}
use Rattle.rules.specs.Lists.{all_of, given}
use Rattle.rules.specs.Arithmetic.{same_number, many}
use Rattle.rules.specs.Primitives.{parted}
use Rattle.rules.specs.Charges.{prim_charge}
use Rattle.plan.specs.Boxes.{boxed}
use Rattle.running.specs.Cells.{size_at, elements_at, list_block, words_from, nested}
use Rattle.running.specs.Machine.{st, pay, tried, part_blocks, do_part}
use Rattle.running.specs.Words.{Each, Holds}
use Rattle.running.proofs.Holding.{holds_sub, each_turn, each_length, each_same, new_list, size-at, sizes_each, list_each, list_few}
use Rattle.running.proofs.Sums.{sum-concat, sum_more, cut_whole, all-parted, each_cut, each_mapped}
use Rattle.running.proofs.Doing.{Does, refuses}
use Rattle.running.proofs.Written.{words_long, Stored, many_blocks}

pub ints-same : (h : List Int) (ws vs : List Int) → Each (Holds h int) ws vs → ws ≡ vs
ints-same h ws vs r = sym (map-id ws) ∙ each_same (Holds h int) (λ w. w) (λ v. v) (λ w v e. e) ws vs r ∙ map-id vs

-- the cells of the lists' blocks
pub parts-length : (h : List Int) (x : Bool) (wss : List (List Int)) → length (concat (part_blocks h x wss)) ≡ 2 * length wss + length (concat wss)
parts-length h x [] = refl
parts-length h x (ws ∷ wss) = simp length-append (omega (arith, parts-length h x wss))

part_stored : (h : List Int) (a : Ty) (ws : List Int) (xs : List (Val a)) → Each (Holds h a) ws xs →
    Stored h (list a) (list_block (sum_by (size_at h (boxed a)) ws) ws) xs
part_stored h a ws xs r k q s lq ls row =
    let sum : sum_by (size_at h (boxed a)) ws ≡ sum_by (size a) xs = sizes_each h a ws xs r in
    new_list a k q (sum_by (size_at h (boxed a)) ws) ws xs lq (omega arith) sum row (each_turn (Holds h a) (Holds k a) (holds_sub h k s a) ws xs r)

-- the sizes of the parts
parts-size : (a : Ty) (xs : List (Val a)) (ns : List ℕ) → sum_by (λ n. n) ns ≡ length xs →
    sum_by (size (list a)) (cut xs ns) ≡ length ns + sum_by (size a) xs
parts-size a xs ns e =
    sum_more (sum_by (size a)) (cut xs ns) ∙ ap (λ n. n + sum_by (sum_by (size a)) (cut xs ns)) (length_cut xs ns) ∙
    ap (λ n. length ns + n) (sum-concat (size a) (cut xs ns) ∙ ap (sum_by (size a)) (cut_whole xs ns e))

module _ (B p i c : ℕ) (h o e l : List Int) where
  -- the lengths are let pass, or not
  parting : (a : Ty) (u v : Int) (ws : List Int) (xs : List (Val a)) (cs : List Int) (t : Bool) → size_at h true u ≡ size (list a) xs →
      size_at h true v ≡ size (list int) cs → Each (Holds h a) ws xs →
      (t ≡ true → sum_by (λ n. n) (map (λ n. many n.value) cs) ≡ length xs) →
      Does B (list (list a)) 20 p i c h o e l (λ z. prim_charge (list a ∷ list int ∷ []) (list (list a)) (xs, (cs, tt)) z)
      (tried 20 p (given t (cut ws (map (λ n. many n.value) cs)))
      (λ wss. pay B p (1 + (size_at h true u + size_at h true v) + (1 + (length wss + sum_by (size_at h (boxed a)) ws)))
      (st (i + 1) c (h ++ nested (length h) (length wss + sum_by (size_at h (boxed a)) ws) (part_blocks h (boxed a) wss))
      (count (length h + length (concat (part_blocks h (boxed a) wss))) ∷ o) e l)))
      (given t (cut xs (map (λ n. many n.value) cs)))
  parting a u v ws xs cs false eu ev ea k = refuses refl
  parting a u v ws xs cs true eu ev ea k =
      let ns : List ℕ = map (λ n. many n.value) cs in
      let all : sum_by (λ n. n) ns ≡ length xs = k refl in
      let wss : List (List Int) = cut ws ns in
      let bs : List (List Int) = part_blocks h (boxed a) wss in
      let m : ℕ = length wss + sum_by (size_at h (boxed a)) ws in
      let sum : sum_by (size_at h (boxed a)) ws ≡ sum_by (size a) xs = sizes_each h a ws xs ea in
      let parts : sum_by (size (list a)) (cut xs ns) ≡ length ns + sum_by (size a) xs = parts-size a xs ns all in
      let many_ns : length ns ≡ length cs = length-map cs (λ n. many n.value) in
      let many_wss : length wss ≡ length ns = length_cut ws ns in
      let long : length ws ≡ length xs = each_length (Holds h a) ws xs ea in
      let whole : length (concat wss) ≡ length ws = ap length (cut_whole ws ns (all ∙ sym long)) in
      let cells : length (concat bs) ≡ 2 * length wss + length (concat wss) = parts-length h (boxed a) wss in
      let outer : length (words_from (length h) bs) ≡ length wss = words_long (length h) bs ∙
      length-map wss (λ ws. list_block (sum_by (size_at h (boxed a)) ws) ws) in
      let few : length xs ≤ sum_by (size a) xs = list_few a xs in
      let ncs : length cs ≤ sum_by (size int) cs = list_few int cs in
      let grown : length (nested (length h) m bs) ≡ length (concat bs) + suc (suc (length (words_from (length h) bs))) =
      length-append (concat bs) (list_block m (words_from (length h) bs)) in
      many_blocks B (list a) 20 p i c h o e l _ _ (cut xs ns) m bs (omega arith) (omega arith) (omega arith)
      (each_mapped (Each (Holds h a)) (Stored h (list a)) (λ ws. list_block (sum_by (size_at h (boxed a)) ws) ws) (part_stored h a) wss (cut xs ns)
      (each_cut (Holds h a) ws xs ns ea))
      (ap (λ n. pay B p n (st (i + 1) c (h ++ nested (length h) m bs) (count (length h + length (concat bs)) ∷ o) e l)) (omega arith))

  pub parts : (a : Ty) (u v : Int) (xs : List (Val a)) (cs : List Int) → Holds h (list a) u xs → Holds h (list int) v cs →
      Does B (list (list a)) 20 p i c h o e l (λ z. prim_charge (list a ∷ list int ∷ []) (list (list a)) (xs, (cs, tt)) z)
      (do_part B (boxed a) p (st i c h (v ∷ u ∷ o) e l)) (parted xs cs)
  parts a u v xs cs r q =
      let ws : List Int = elements_at h u in
      let ea : Each (Holds h a) ws xs = list_each a h u xs r in
      let ec : elements_at h v ≡ cs = ints-same h (elements_at h v) cs (list_each int h v cs q) in
      let long : length ws ≡ length xs = each_length (Holds h a) ws xs ea in
      let D : List Int → ℕ → Type 0 = λ ds n.
      Does B (list (list a)) 20 p i c h o e l (λ z. prim_charge (list a ∷ list int ∷ []) (list (list a)) (xs, (cs, tt)) z)
      (tried 20 p (given (all_of (λ n. non_neg n.value) ds && same_number (exact_sum ds) (pos n)) (cut ws (map (λ n. many n.value) ds)))
      (λ wss. pay B p (1 + (size_at h true u + size_at h true v) + (1 + (length wss + sum_by (size_at h (boxed a)) ws)))
      (st (i + 1) c (h ++ nested (length h) (length wss + sum_by (size_at h (boxed a)) ws) (part_blocks h (boxed a) wss))
      (count (length h + length (concat (part_blocks h (boxed a) wss))) ∷ o) e l)))
      (parted xs cs) in
      subst (λ ds. D ds (length ws)) (sym ec) (subst (D cs) (sym long)
      (parting a u v ws xs cs (all_of (λ n. non_neg n.value) cs && same_number (exact_sum cs) (pos (length xs))) (size-at h (list a) u xs r)
      (size-at h (list int) v cs q) ea (all-parted cs (length xs))))
