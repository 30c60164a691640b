-- The cells that each task writes are at most two for each unit that it is charged, whatever the words are.
use Rattle.std.proofs.Common.{◌≡◌, ℕ, zero, suc, ◌+◌, ◌*◌, ◌^◌, ◌<◌, ◌≤◌, Bool, true, false, ◌&&◌, List, [], ◌∷◌, map, length, take, drop, pos, sym, refl, ap, ◌∙◌, arith, length-append}
use Rattle.std.proofs.lemmas.Grind.{common_steps}
use mathlib.Core.Option.{some}
use lib.Signed.{non_neg}
use Rattle.std.proofs.lemmas.List.{length-map}
use Rattle.monoid.specs.declared.int.Int.{Int}
use Rattle.monoid.specs.Ints.{exact_sum}
use Rattle.monoid.specs.Segments.{concat, cut}
use Rattle.monoid.proofs.Segments.{length_cut}
use Rattle.lang.specs.Values.{sum_by}
use Rattle.lang.specs.Layout.{flat_map}
use Rattle.rules.specs.Lists.{all_of, given}
use Rattle.rules.specs.Arithmetic.{same_number, many}
use Rattle.rules.specs.Primitives.{ints_below, parted}
use Rattle.rules.specs.Joining.{Joining}
use Rattle.running.specs.Cells.{place, size_less, size_at, long_at, elements_at, pair_block, list_block, words_from, nested}
use Rattle.running.specs.Machine.{flat_block, part_blocks, scan_block, scan_blocks}
use Rattle.running.specs.Words.{limit}
use Rattle.running.proofs.Holding.{sum_long}
use Rattle.running.proofs.Sums.{sum-concat, cut_whole, all-parted}
use Rattle.running.proofs.Lists.{length-ints}
use Rattle.running.proofs.Parts.{parts-length}
use Rattle.running.proofs.Scans.{running-length, pairs_length}
use Rattle.running.proofs.Written.{words_long}

-- the places of a run under a common budget are below the limit
pub common_limit : (n B : ℕ) → B ≤ 20000 → n ≤ 2 ^ 20 → n + 2 * B < limit
common_limit n B b l = omega arith

pub take_few : {A : Type 0} (n : ℕ) (xs : List A) → (length (take n xs) ≤ n) × (length (take n xs) ≤ length xs)
take_few zero xs = (omega arith, omega arith)
take_few (suc n) [] = (omega arith, omega arith)
take_few (suc n) (x ∷ xs) = (omega (arith, (take_few n xs).0), omega (arith, (take_few n xs).1))

pub elements_few : (h : List Int) (w : Int) → length (elements_at h w) ≤ size_less h w
elements_few h w = omega (
  arith,
  (take_few (long_at h w) (take (size_less h w) (drop (place w + 2) h))).1,
  (take_few (size_less h w) (drop (place w + 2) h)).0,
)

pub size-one : (h : List Int) (x : Bool) (w : Int) → 1 ≤ size_at h x w
size-one h true w = omega arith
size-one h false w = omega arith

pub pair_paid : (h : List Int) (x y : Bool) (k : ℕ) (u v : Int) →
    length (pair_block k u v) ≤ 2 * (1 + (size_at h x u + size_at h y v) + (size_at h x u + size_at h y v))
pair_paid h x y k u v = omega (arith, size-one h x u)

pub gather_paid : (h : List Int) (x : Bool) (ws : List Int) → length (list_block (sum_by (size_at h x) ws) ws) ≤ 2 * (1 + (1 + sum_by (size_at h x) ws))
gather_paid h x ws = omega (arith, sum_long (size_at h x) (size-one h x) ws)

pub bracket_paid : (h : List Int) (x : Bool) (ws : List Int) →
    length (list_block (sum_by (size_at h x) ws) ws) ≤ 2 * (1 + sum_by (size_at h x) ws + (1 + sum_by (size_at h x) ws))
bracket_paid h x ws = omega (arith, sum_long (size_at h x) (size-one h x) ws)

pub range_paid : (n : ℕ) → length (list_block n (ints_below n)) ≤ 2 * (1 + 1 + (1 + n))
range_paid n = omega (arith, length-ints n)

flat_few : (h : List Int) (ws : List Int) → length (flat_map (elements_at h) ws) ≤ sum_by (size_less h) ws
flat_few h [] = omega arith
flat_few h (w ∷ ws) = omega (arith, length-append (elements_at h w) (flat_map (elements_at h) ws), elements_few h w, flat_few h ws)

pub flat_paid : (h : List Int) (w : Int) → length (flat_block h w) ≤ 2 * (1 + size_at h true w + (1 + sum_by (size_less h) (elements_at h w)))
flat_paid h w = omega (arith, flat_few h (elements_at h w))

-- what parts a list has
pub record Parted (ws cs : List Int) (wss : List (List Int)) : Type 0 where
  pub long : length wss ≡ length cs
  pub whole : concat wss ≡ ws

pub is-parted : (ws cs : List Int) (wss : List (List Int)) → parted ws cs ≡ some wss → Parted ws cs wss
is-parted ws cs wss e = by (all_of (λ n. non_neg n.value) cs && same_number (exact_sum cs) (pos (length ws))) (all-parted cs (length ws)) e
  where
    by : (t : Bool) → (t ≡ true → sum_by (λ n. n) (map (λ n. many n.value) cs) ≡ length ws) →
        given t (cut ws (map (λ n. many n.value) cs)) ≡ some wss → Parted ws cs wss
    by true k q =
        let is : cut ws (map (λ n. many n.value) cs) ≡ wss = cc in
        record {
          long = sym (ap length is) ∙ length_cut ws (map (λ n. many n.value) cs) ∙ length-map cs (λ n. many n.value);
          whole = sym (ap concat is) ∙ cut_whole ws (map (λ n. many n.value) cs) (k refl);
        }
    by false k q = absurd cc

-- the sizes of the parts come to that of the list
pub parted-sizes : (f : Int → ℕ) (ws cs : List Int) (wss : List (List Int)) → parted ws cs ≡ some wss → sum_by (sum_by f) wss ≡ sum_by f ws
parted-sizes f ws cs wss e = sum-concat f wss ∙ ap (sum_by f) (is-parted ws cs wss e).whole

pub part_paid : (h : List Int) (x : Bool) (q : ℕ) (u v : Int) (wss : List (List Int)) → parted (elements_at h u) (elements_at h v) ≡ some wss →
    length (nested q (length wss + sum_by (size_at h x) (elements_at h u)) (part_blocks h x wss)) ≤
    2 * (1 + (size_at h true u + size_at h true v) + (1 + (length wss + sum_by (size_at h x) (elements_at h u))))
part_paid h x q u v wss e =
    let r : Parted (elements_at h u) (elements_at h v) wss = is-parted (elements_at h u) (elements_at h v) wss e in
    let bs : List (List Int) = part_blocks h x wss in
    let n : ℕ = length wss + sum_by (size_at h x) (elements_at h u) in
    let block : List Int → List Int = λ ws. list_block (sum_by (size_at h x) ws) ws in
    omega (
      arith,
      length-append (concat bs) (list_block n (words_from q bs)),
      parts-length h x wss,
      words_long q bs,
      length-map wss block,
      ap length r.whole,
      r.long,
      elements_few h v,
      sum_long (size_at h x) (size-one h x) (elements_at h u),
    )

pub scan_paid : (J : Joining Int) (h : List Int) (w : Int) → length (scan_block J h w) ≤ 2 * (1 + size_at h true w + size_at h true w)
scan_paid J h w = omega (arith, running-length J.op J.unit (elements_at h w), elements_few h w)

pub scan_pairs_paid : (h : List Int) (q : ℕ) (w : Int) →
    length (nested q (size_less h w) (scan_blocks h w)) ≤ 2 * (1 + size_at h true w + size_at h true w)
scan_pairs_paid h q w = grind (arith, common_steps, length-append, words_long, pairs_length, length-map, running-length, elements_few)
