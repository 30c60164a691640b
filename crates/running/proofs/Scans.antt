-- Scans and reductions.
use Rattle.std.proofs.Common.{◌≡◌, ℕ, suc, ◌+◌, ◌*◌, Bool, true, false, not, ◌||◌, List, [], ◌∷◌, ◌++◌, map, length, sym, refl, ap, ◌∙◌, add-one, arith, length-append}
use Rattle.std.proofs.lemmas.Grind.{common_steps}
use mathlib.Core.Option.{some}
use Rattle.std.proofs.lemmas.List.{length-map, map-id}
use Rattle.monoid.specs.declared.int.Int.{Int}
use Rattle.monoid.specs.Ints.{is_zero}
use Rattle.monoid.specs.Laws.{product}
use Rattle.monoid.specs.Segments.{concat, running}
use Rattle.types.specs.Types.{Ty, int, bool, pair, list}
use Rattle.grammar.specs.declared.occurrence.Operation.{Operation}
use Rattle.grammar.specs.declared.occurrence.Operation.TheVariants.{Sum, Max, Or, Lin, House}
use Rattle.lang.specs.Values.{Val, sum_by, size}
use Rattle.lang.specs.Expr.{joined}
use Rattle.lang.specs.Layout.{flag, count}
use Rattle.rules.specs.Charges.{prim_charge}
use Rattle.rules.specs.Joining.{Joining, HouseJoin, joining}
use Rattle.running.specs.Cells.{size_less, size_at, elements_at, halves_at, pair_block, list_block, words_from, nested}
use Rattle.running.specs.Machine.{st, pay, or_words, lin_pairs, scan_words, reduce_words, scan_pairs, reduce_pairs, do_scan, do_reduce}
use Rattle.running.specs.Words.{Holds}
use Rattle.running.proofs.Counts.{place_of}
use Rattle.running.proofs.Holding.{Sub, sub_refl, sub_append, row_new, word-nth, each_same, new_pair, size-at, list_less, list_each}
use Rattle.running.proofs.Sums.{sum_const, each_made}
use Rattle.running.proofs.Doing.{Does, puts}
use Rattle.running.proofs.Written.{words_long, Stored, one_block, many_blocks}

pub running-length : {X : Type 0} (op : X → X → X) (a : X) (xs : List X) → length (running op a xs) ≡ length xs
running-length op a [] = refl
running-length op a (x ∷ xs) = ap suc (running-length op (op a x) xs)

-- values that are their words
pub record Plain (t : Ty) (f : Val t → Int) : Type 0 where
  pub one : (v : Val t) → size t v ≡ 1
  pub made : (h : List Int) (v : Val t) → Holds h t (f v) v
  pub read : (h : List Int) (w : Int) (v : Val t) → Holds h t w v → w ≡ f v

-- a joining of words that is one of values
pub record Alike {X : Type 0} (f : X → Int) (J : Joining Int) (G : Joining X) : Type 0 where
  pub unit : J.unit ≡ f G.unit
  pub op : (x y : X) → J.op (f x) (f y) ≡ f (G.op x y)

module _ {X : Type 0} (f : X → Int) (J : Joining Int) (G : Joining X) (r : Alike f J G) where
  running_alike : (a : X) (xs : List X) → running J.op (f a) (map f xs) ≡ map f (running G.op a xs)
  running_alike a [] = refl
  running_alike a (x ∷ xs) = ap (λ q. f a ∷ q) (ap (λ z. running J.op z (map f xs)) (r.op a x) ∙ running_alike (G.op a x) xs)

  scan_alike : (xs : List X) → running J.op J.unit (map f xs) ≡ map f (running G.op G.unit xs)
  scan_alike xs = ap (λ z. running J.op z (map f xs)) r.unit ∙ running_alike G.unit xs

  reduce_alike : (xs : List X) → product J.unit J.op (map f xs) ≡ f (product G.unit G.op xs)
  reduce_alike [] = r.unit
  reduce_alike (x ∷ xs) = ap (J.op (f x)) (reduce_alike xs) ∙ r.op x (product G.unit G.op xs)

int_plain : Plain int (λ v. v)
int_plain = record { one = λ v. refl; made = λ h v. refl; read = λ h w v e. e }

bool_plain : Plain bool flag
bool_plain = record { one = λ v. refl; made = λ h v. refl; read = λ h w v e. e }

int_alike : (J : Joining Int) → Alike (λ v. v) J J
int_alike J = record { unit = refl; op = λ x y. refl }

or_alike : Alike flag or_words (record { unit = false; op = ◌||◌ })
or_alike = record { unit = refl; op = by }
  where
    by : (x y : Bool) → flag (not (is_zero (flag x)) || not (is_zero (flag y))) ≡ flag (x || y)
    by true true = refl
    by true false = refl
    by false true = refl
    by false false = refl

-- the halves of pairs of ints
halves_same : (h : List Int) (w : Int) (q : Int × Int) → Holds h (pair int int) w q → halves_at h w ≡ q
halves_same h w q r = grind (arith, common_steps, place_of, add-one, word-nth)

pub pairs_length : (zs : List (Int × Int)) → length (concat (map (λ q. pair_block 1 q.0 q.1) zs)) ≡ 3 * length zs
pairs_length [] = refl
pairs_length (z ∷ zs) = omega (arith, pairs_length zs)

pair_stored : (h : List Int) (q : Int × Int) → Stored h (pair int int) (pair_block 1 q.0 q.1) q
pair_stored h q k p s lp ls row = new_pair int int k p 1 q.0 q.1 q.0 q.1 lp (omega arith) refl row refl refl

module _ (B p i c : ℕ) (h o e l : List Int) where
  scans_plain : (t : Ty) (f : Val t → Int) (J : Joining Int) (G : Joining (Val t)) → Plain t f → Alike f J G → (u : Int) (xs : List (Val t)) →
      Holds h (list t) u xs →
      Does B (list t) 0 p i c h o e l (λ z. prim_charge (list t ∷ []) (list t) (xs, tt) z) (scan_words B J p (st i c h (u ∷ o) e l))
      (some (running G.op G.unit xs))
  scans_plain t f J G pl al u xs r =
      let zs : List (Val t) = running G.op G.unit xs in
      let n : ℕ = size_less h u in
      let words : elements_at h u ≡ map f xs = sym (map-id (elements_at h u)) ∙
      each_same (Holds h t) (λ w. w) f (pl.read h) (elements_at h u) xs (list_each t h u xs r) in
      let ws : running J.op J.unit (elements_at h u) ≡ map f zs = ap (running J.op J.unit) words ∙ scan_alike f J G al xs in
      let eu : n ≡ sum_by (size t) xs = list_less t h u xs r in
      let sx : sum_by (size t) xs ≡ length xs * 1 = sum_const (size t) 1 pl.one xs in
      let sz : sum_by (size t) zs ≡ length zs * 1 = sum_const (size t) 1 pl.one zs in
      let long : length zs ≡ length xs = running-length G.op G.unit xs in
      one_block B t 0 p i c h o e l _ _ zs n (map f zs) (omega arith) (omega arith) (each_made (Holds h t) f (pl.made h) zs)
      (ap (λ q. pay B p (1 + (1 + n) + (1 + n)) (st (i + 1) c (h ++ list_block n q) (count (length h) ∷ o) e l)) ws ∙
      ap (λ k. pay B p k (st (i + 1) c (h ++ list_block n (map f zs)) (count (length h) ∷ o) e l)) (omega arith))

  reduces_plain : (t : Ty) (f : Val t → Int) (J : Joining Int) (G : Joining (Val t)) → Plain t f → Alike f J G → (u : Int) (xs : List (Val t)) →
      Holds h (list t) u xs →
      Does B t 0 p i c h o e l (λ z. prim_charge (list t ∷ []) t (xs, tt) z) (reduce_words B J p (st i c h (u ∷ o) e l))
      (some (product G.unit G.op xs))
  reduces_plain t f J G pl al u xs r =
      let z : Val t = product G.unit G.op xs in
      let n : ℕ = size_at h true u in
      let words : elements_at h u ≡ map f xs = sym (map-id (elements_at h u)) ∙
      each_same (Holds h t) (λ w. w) f (pl.read h) (elements_at h u) xs (list_each t h u xs r) in
      let w : product J.unit J.op (elements_at h u) ≡ f z = ap (product J.unit J.op) words ∙ reduce_alike f J G al xs in
      let eu : n ≡ size (list t) xs = size-at h (list t) u xs r in
      let sz : size t z ≡ 1 = pl.one z in
      puts h (f z) (sub_refl h) (omega arith) (λ q. record { holds = pl.made h z })
      (ap (λ v. pay B p (1 + n + 1) (st (i + 1) c h (v ∷ o) e l)) w ∙ ap (λ k. pay B p k (st (i + 1) c h (f z ∷ o) e l)) (omega arith))

  scans_pairs : (u : Int) (xs : List (Int × Int)) → Holds h (list (pair int int)) u xs →
      Does B (list (pair int int)) 0 p i c h o e l (λ z. prim_charge (list (pair int int) ∷ []) (list (pair int int)) (xs, tt) z)
      (scan_pairs B p (st i c h (u ∷ o) e l)) (some (running lin_pairs.op lin_pairs.unit xs))
  scans_pairs u xs r =
      let t : Ty = pair int int in
      let n : ℕ = size_less h u in
      let zs : List (Int × Int) = running lin_pairs.op lin_pairs.unit xs in
      let block : Int × Int → List Int = λ q. pair_block 1 q.0 q.1 in
      let bs : List (List Int) = map block zs in
      let words : map (halves_at h) (elements_at h u) ≡ xs =
      each_same (Holds h t) (halves_at h) (λ q. q) (halves_same h) (elements_at h u) xs (list_each t h u xs r) ∙ map-id xs in
      let eu : n ≡ sum_by (size t) xs = list_less t h u xs r in
      let sx : sum_by (size t) xs ≡ length xs * 2 = sum_const (size t) 2 (λ v. refl) xs in
      let sz : sum_by (size t) zs ≡ length zs * 2 = sum_const (size t) 2 (λ v. refl) zs in
      let long : length zs ≡ length xs = running-length lin_pairs.op lin_pairs.unit xs in
      let cells : length (concat bs) ≡ 3 * length zs = pairs_length zs in
      let outer : length (words_from (length h) bs) ≡ length zs = words_long (length h) bs ∙ length-map zs block in
      let grown : length (nested (length h) n bs) ≡ length (concat bs) + suc (suc (length (words_from (length h) bs))) =
      length-append (concat bs) (list_block n (words_from (length h) bs)) in
      many_blocks B t 0 p i c h o e l _ _ zs n bs (omega arith) (omega arith) (omega arith) (each_made (Stored h t) block (pair_stored h) zs)
      (ap (λ q. pay B p (1 + (1 + n) + (1 + n)) (st (i + 1) c (h ++ nested (length h) n (map block (running lin_pairs.op lin_pairs.unit q)))
      (count (length h + length (concat (map block (running lin_pairs.op lin_pairs.unit q)))) ∷ o) e l)) words ∙
      ap (λ k. pay B p k (st (i + 1) c (h ++ nested (length h) n bs) (count (length h + length (concat bs)) ∷ o) e l)) (omega arith))

  reduces_pairs : (u : Int) (xs : List (Int × Int)) → Holds h (list (pair int int)) u xs →
      Does B (pair int int) 0 p i c h o e l (λ z. prim_charge (list (pair int int) ∷ []) (pair int int) (xs, tt) z)
      (reduce_pairs B p (st i c h (u ∷ o) e l)) (some (product lin_pairs.unit lin_pairs.op xs))
  reduces_pairs u xs r =
      let t : Ty = pair int int in
      let n : ℕ = size_at h true u in
      let z : Int × Int = product lin_pairs.unit lin_pairs.op xs in
      let b : List Int = pair_block 1 z.0 z.1 in
      let words : map (halves_at h) (elements_at h u) ≡ xs =
      each_same (Holds h t) (halves_at h) (λ q. q) (halves_same h) (elements_at h u) xs (list_each t h u xs r) ∙ map-id xs in
      let eu : n ≡ size (list t) xs = size-at h (list t) u xs r in
      let sub : Sub h (h ++ b) = sub_append h b in
      let long : length (h ++ b) ≡ length h + 3 = length-append h b in
      puts (h ++ b) (count (length h)) sub (omega arith)
      (λ f. record { holds = pair_stored h z (h ++ b) (length h) sub (omega (arith, f.cells)) (omega (arith, f.charge)) (row_new h b) })
      (ap (λ q. pay B p (1 + n + 2) (st (i + 1) c (h ++ pair_block 1 (product lin_pairs.unit lin_pairs.op q).0
      (product lin_pairs.unit lin_pairs.op q).1) (count (length h) ∷ o) e l)) words ∙
      ap (λ k. pay B p k (st (i + 1) c (h ++ b) (count (length h) ∷ o) e l)) (omega arith))

  module _ (H : HouseJoin) where
    pub scans : (f : Operation) (u : Int) (xs : List (Val (joined f))) → Holds h (list (joined f)) u xs →
        Does B (list (joined f)) 0 p i c h o e l (λ z. prim_charge (list (joined f) ∷ []) (list (joined f)) (xs, tt) z)
        (do_scan B H f p (st i c h (u ∷ o) e l)) (some (running (joining H f).op (joining H f).unit xs))
    scans Sum u xs r = scans_plain int (λ v. v) (joining H Sum) (joining H Sum) int_plain (int_alike (joining H Sum)) u xs r
    scans Max u xs r = scans_plain int (λ v. v) (joining H Max) (joining H Max) int_plain (int_alike (joining H Max)) u xs r
    scans Or u xs r = scans_plain bool flag or_words (joining H Or) bool_plain or_alike u xs r
    scans Lin u xs r = scans_pairs u xs r
    scans House u xs r = scans_plain int (λ v. v) H H int_plain (int_alike H) u xs r

    pub reduces : (f : Operation) (u : Int) (xs : List (Val (joined f))) → Holds h (list (joined f)) u xs →
        Does B (joined f) 0 p i c h o e l (λ z. prim_charge (list (joined f) ∷ []) (joined f) (xs, tt) z) (do_reduce B H f p (st i c h (u ∷ o) e l))
        (some (product (joining H f).unit (joining H f).op xs))
    reduces Sum u xs r = reduces_plain int (λ v. v) (joining H Sum) (joining H Sum) int_plain (int_alike (joining H Sum)) u xs r
    reduces Max u xs r = reduces_plain int (λ v. v) (joining H Max) (joining H Max) int_plain (int_alike (joining H Max)) u xs r
    reduces Or u xs r = reduces_plain bool flag or_words (joining H Or) bool_plain or_alike u xs r
    reduces Lin u xs r = reduces_pairs u xs r
    reduces House u xs r = reduces_plain int (λ v. v) H H int_plain (int_alike H) u xs r
