-- The walk over cells that writes one vector, value by value.
use Rattle.std.proofs.Common.{◌≡◌, ℕ, suc, ◌≤◌, ◌⊎◌, inr, List, [], ◌∷◌, ◌++◌, length, Some, None, Option, slice_get, sym, refl, ap, ◌∙◌, subst, append-nil, append_assoc, arith, length-append}
use Rattle.std.proofs.lemmas.List.{nil_from_length}
use Rattle.monoid.specs.declared.int.Int.{Int}
use Rattle.types.specs.Types.{Ty, pair, list, parts}
use Rattle.types.specs.Entries.{counted}
use Rattle.lang.specs.Values.{Val, size, sum_by}
use Rattle.lang.specs.Layout.{cells, vectors, flat_map, count}
use Rattle.vectors.specs.declared.writer.Writer.{Writer}
use Rattle.vectors.specs.Vectors.{Countable}
use Rattle.vectors.specs.Writing.{room, Goes}
use Rattle.vectors.specs.Walking.{IsLength, wanted, Past, Steps, Walks}
use Rattle.vectors.proofs.Sums.{number, part-append, few}
use Rattle.vectors.proofs.Faithful.{length_is}
use Rattle.vectors.proofs.Writing.{wrote_none, stuck, goes_first, goes_then}

-- ---- the wanted vector
wanted-append : (k : Option ℕ) (t : Ty) (vs ws : List (Val t)) → wanted k (vectors t (vs ++ ws)) ≡ wanted k (vectors t vs) ++ wanted k (vectors t ws)
wanted-append (Some k) t vs ws = part-append t vs ws k
wanted-append None t vs ws = refl

wanted_none : (k : Option ℕ) (t : Ty) → wanted k (vectors t []) ≡ []
wanted_none k t =
    let p = wanted k (vectors t []) in
    nil_from_length p (omega (arith, ap length (wanted-append k t [] []), length-append p p))

pub walks_at : {t u : Ty} {k : Option ℕ} {cs cs' : List Int} {w w' : Writer} {r : Option (Unit {0})} → t ≡ u → Walks u k cs w r cs' w' → Walks t k cs w r cs' w'
walks_at {k = k} {cs} {cs'} {w} {w'} {r} e g = subst (λ t. Walks t k cs w r cs' w') (sym e) g

-- ---- a pair
pub pair_walks : {a b : Ty} {k k' : Option ℕ} {cs cs₁ cs₂ : List Int} {w w₁ w₂ : Writer} {r r₂ : Option (Unit {0})} {n : ℕ} → n ≡ counted a → Past k n k'
    → Walks a k cs w r cs₁ w₁ → (r ≡ None) ⊎ Walks b k' cs₁ w₁ r₂ cs₂ w₂ → Walks (pair a b) k cs w r₂ cs₂ w₂
pair_walks {a} {b} {k' = k'} e past first second = record {
  goes = λ v rest small fits is h.
      goes_then (wanted k' (vectors b (v.1 ∷ [])))
      (past.past (vectors a (v.0 ∷ [])) (vectors b (v.1 ∷ [])) (omega (arith, number a (v.0 ∷ [])))) h
      (first.goes v.0 (cells b v.1 ++ rest) (omega arith) (omega arith) (is ∙ append_assoc (cells a v.0) (cells b v.1) rest))
      second (λ second. second.goes v.1 rest (omega arith) (omega arith));
}

-- ---- a list: its length and then its elements
-- over n values
pub record WalksAll (t : Ty) (n : ℕ) (k : Option ℕ) (cs : List Int) (w : Writer) (r : Option (Unit {0})) (cs' : List Int) (w' : Writer) : Type 0 where
  pub goes : (vs : List (Val t)) (rest : List Int) → length vs ≡ n → parts t ≤ 8 → Countable (sum_by (size t) vs)
      → cs ≡ flat_map (cells t) vs ++ rest → length (wanted k (vectors t vs)) ≤ length (room w)
      → Goes tt rest (wanted k (vectors t vs)) w r cs' w'

-- a list's first cell is its length
module _ (a : Ty) {cs : List Int} (v : Val (list a)) (rest : List Int) (is : cs ≡ cells (list a) v ++ rest) where
  begins : slice_get cs 0 ≡ Some (count (length v))
  begins = ap (λ cs. slice_get cs 0) is

  read : (x : Int) (m : Option ℕ) → Some x ≡ slice_get cs 0 → IsLength x m → Countable (size (list a) v) → m ≡ Some (length v)
  read x m first is_length fits =
      let same : x ≡ count (length v) = let e = first ∙ begins in cc in
      length_is x (length v) (omega (arith, few a v)) same m is_length

module _ (a : Ty) {k k' : Option ℕ} {cs cs₁ : List Int} {w w₁ : Writer} {r : Option Int} (past : Past k 1 k') (first : Steps k cs w r cs₁ w₁)
    (v : Val (list a)) (rest : List Int) (is : cs ≡ cells (list a) v ++ rest)
    (h : length (wanted k (vectors (list a) (v ∷ []))) ≤ length (room w)) where
  split : wanted k (vectors (list a) (v ∷ [])) ≡ wanted k ((count (length v) ∷ []) ∷ []) ++ wanted k' (vectors a v)
  split = ap (λ vs. wanted k ((count (length v) ∷ []) ∷ vectors a vs)) (append-nil v) ∙ past.past ((count (length v) ∷ []) ∷ []) (vectors a v) refl

  stepped : Goes (count (length v)) (flat_map (cells a) v ++ rest) (wanted k ((count (length v) ∷ []) ∷ [])) w r cs₁ w₁
  stepped = goes_first (wanted k' (vectors a v)) split h (first.goes (count (length v)) (flat_map (cells a) v ++ rest) is)

pub list_walks : {a : Ty} {k k' : Option ℕ} {cs cs₁ cs₂ : List Int} {w w₁ w₂ : Writer} {x y : Int} {n : ℕ} {r : Option (Unit {0})} → Past k 1 k'
    → Some x ≡ slice_get cs 0 → IsLength x (Some n) → Steps k cs w (Some y) cs₁ w₁ → WalksAll a n k' cs₁ w₁ r cs₂ w₂ → Walks (list a) k cs w r cs₂ w₂
list_walks {a} {k' = k'} {x = x} {n = n} past looked is_length first all = record {
  goes = λ v rest small fits is h.
      let long : length v ≡ n = let e = read a v rest is x (Some n) looked is_length fits in cc in
      goes_then (wanted k' (vectors a v)) (split a past first v rest is h) h (λ room. stepped a past first v rest is h)
      (inr all) (λ all. all.goes v rest long (omega arith) (omega arith));
}

pub list_empty : {a : Ty} {k : Option ℕ} {cs cs' : List Int} {w w' : Writer} {r : Option (Unit {0})} → None ≡ slice_get cs 0
    → Walks (list a) k cs w r cs' w'
list_empty {a} looked = record { goes = λ v rest small fits is h. let e = looked ∙ begins a v rest is in absurd (cc) }

pub list_uncounted : {a : Ty} {k : Option ℕ} {cs cs' : List Int} {w w' : Writer} {x : Int} {r : Option (Unit {0})} → Some x ≡ slice_get cs 0
    → IsLength x None → Walks (list a) k cs w r cs' w'
list_uncounted {a} {x = x} looked is_length = record {
  goes = λ v rest small fits is h.
      let e = read a v rest is x None looked is_length fits in absurd (cc);
}

pub list_stops : {a : Ty} {k k' : Option ℕ} {cs cs₁ : List Int} {w w₁ : Writer} {r : Option (Unit {0})} → Past k 1 k' → Steps k cs w None cs₁ w₁
    → Walks (list a) k cs w r cs₁ w₁
list_stops {a} past first = record { goes = λ v rest small fits is h. absurd (stuck (stepped a past first v rest is h)) }

-- ---- values one after the other
pub walks_none : {t : Ty} {n : ℕ} {k : Option ℕ} {cs : List Int} {w : Writer} → n ≡ 0 → WalksAll t n k cs w (Some tt) cs w
walks_none {t} {n} {k} {cs} {w} z = record {
  goes = λ vs rest long small fits is h.
      let none : vs ≡ [] = nil_from_length vs (omega arith) in
      let nothing : wanted k (vectors t vs) ≡ [] = ap (λ us. wanted k (vectors t us)) none ∙ wanted_none k t in
      rw nothing (record { is = refl; leaves = is ∙ ap (λ us. flat_map (cells t) us ++ rest) none; wrote = wrote_none w });
}

pub walks_more : {t : Ty} {n : ℕ} {k : Option ℕ} {cs cs₁ cs₂ : List Int} {w w₁ w₂ : Writer} {r r₂ : Option (Unit {0})} (m : ℕ) → n ≡ suc m
    → Walks t k cs w r cs₁ w₁ → (r ≡ None) ⊎ WalksAll t m k cs₁ w₁ r₂ cs₂ w₂ → WalksAll t n k cs w r₂ cs₂ w₂
walks_more {t} {n} {k} {cs} {cs₂ = cs₂} {w = w} {w₂ = w₂} {r₂ = r₂} m more first all = record { goes = by }
  where
    by : (vs : List (Val t)) (rest : List Int) → length vs ≡ n → parts t ≤ 8 → Countable (sum_by (size t) vs)
        → cs ≡ flat_map (cells t) vs ++ rest → length (wanted k (vectors t vs)) ≤ length (room w) → Goes tt rest (wanted k (vectors t vs)) w r₂ cs₂ w₂
    by [] rest l small fits is h = absurd (omega arith)
    by (v ∷ vs) rest l small fits is h =
        goes_then (wanted k (vectors t vs)) (wanted-append k t (v ∷ []) vs) h
        (first.goes v (flat_map (cells t) vs ++ rest) small (omega arith) (is ∙ append_assoc (cells t v) (flat_map (cells t) vs) rest))
        all (λ all. all.goes vs rest (omega arith) small (omega arith))
