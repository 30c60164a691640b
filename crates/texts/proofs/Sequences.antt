-- Reading one phrase behind another.
use Rattle.std.proofs.Common.{◌≡◌, ℕ, ◌+◌, ◌-◌, ◌<◌, ◌≤◌, List, [], ◌∷◌, ◌++◌, length, get_or, take, drop, sym, refl, ap, ◌∙◌, subst, ap₂, append_assoc, append-nil, arith, length-append, length-drop, take-append-drop}
use Rattle.std.specs.Int.{IsInRange}
use Rattle.std.proofs.Math.Seq.{take-add}
use Rattle.std.proofs.lemmas.List.{take_at, take_more, get_or-drop, length-take-le}
use Rattle.values.specs.Reading.{Begins, Longest, ReadsFront, StopsAt}
use Rattle.values.proofs.Fronts.{whole_within, whole_begins}
use Rattle.values.specs.Lists.{Separate}
use Rattle.values.proofs.Separate.{PrefixFree, NoDigit, Cut, even, left_short, right_short, cut_both, split, free_reads, same_head}

pub free_cut : {X : Type 0} (f : X → List ℕ) → PrefixFree f → (u v : X) (a b : List ℕ) → f u ++ a ≡ f v ++ b → (f u ≡ f v) × (a ≡ b)
free_cut f free u v a b e = by (cut_both (f u) a (f v) b e)
  where
    by : Cut (f u) a (f v) b → (f u ≡ f v) × (a ≡ b)
    by (even p q) = (p, q)
    by (left_short c r p q) = absurd (free v u c r p)
    by (right_short c r p q) = absurd (free u v c r p)

-- a beginning of a beginning
pub front_of : (r p q : List ℕ) (k : ℕ) → take k r ≡ p ++ q → take (length p) r ≡ p
front_of r p q k e =
    ap (take (length p)) (sym (take-append-drop k r) ∙ ap (λ t. t ++ drop k r) e ∙ append_assoc p q (drop k r)) ∙ take_at p (q ++ drop k r) (length p) refl

-- ---- a text h z made of f x and g y
module _ {X Y Z : Type 0} (f : X → List ℕ) (g : Y → List ℕ) (h : Z → List ℕ) (fst : Z → X) (snd : Z → Y) (mk : X → Y → Z)
    (splits : (z : Z) → h z ≡ f (fst z) ++ g (snd z)) (makes : (x : X) (y : Y) → h (mk x y) ≡ f x ++ g y) (r : List ℕ) where
  pub stops_first : (n : ℕ) → Y → StopsAt f r n → StopsAt h r n
  stops_first n y stop = record {
    none = λ z k e. stop.none (fst z) (length (f (fst z))) (front_of r (f (fst z)) (g (snd z)) k (e ∙ splits z));
    longest = record {
      within = stop.longest.within;
      begins = let b = stop.longest.begins in record {
        value = mk b.value y;
        rest = b.rest ++ g y;
        is = makes b.value y ∙ ap (λ t. t ++ g y) b.is ∙ append_assoc (take n r) b.rest (g y);
      };
      beyond = λ k past fits b. by k past fits b.value
          (cut_both (f (fst b.value)) (g (snd b.value)) (take k r) b.rest (sym (splits b.value) ∙ b.is));
    };
  }
    where
      by : (k : ℕ) → n < k → k ≤ length r → (z : Z) {w : List ℕ} → Cut (f (fst z)) (g (snd z)) (take k r) w → ⊥
      by k past fits z (even p q) = stop.none (fst z) k (sym p)
      by k past fits z (left_short c t p q) = stop.none (fst z) (length (f (fst z))) (front_of r (f (fst z)) (c ∷ t) k p)
      by k past fits z (right_short c t p q) = stop.longest.beyond k past fits (record { value = fst z; rest = c ∷ t; is = p })

  module _ (free : PrefixFree f) (x : X) (n : ℕ) (reads : ReadsFront f r x n) where
    whole : r ≡ f x ++ drop n r
    whole = sym (take-append-drop n r) ∙ ap (λ t. t ++ drop n r) reads.is

    -- more of r than n + m bytes begins no text, if no more of the rest than m bytes does
    seq_beyond : (m : ℕ) → Longest g (drop n r) m → (k : ℕ) → n + m < k → k ≤ length r → Begins h (take k r) → ⊥
    seq_beyond m longest k past fits b =
        let so : n + (k - n) ≡ k = omega arith in
        let z = b.value in
        let parts = free_cut f free (fst z) x (g (snd z)) (take (k - n) (drop n r) ++ b.rest)
        (sym (splits z) ∙ b.is ∙ ap (λ i. take i r ++ b.rest) (sym so) ∙ ap (λ t. t ++ b.rest)
        (take-add n (k - n) r ∙ ap (λ t. t ++ take (k - n) (drop n r)) reads.is)
        ∙ append_assoc (f x) (take (k - n) (drop n r)) b.rest) in
        longest.beyond (k - n) (omega arith) (omega (arith, length-drop n r)) (record { value = snd z; rest = b.rest; is = parts.1 })

    seq_take : (m : ℕ) → take (n + m) r ≡ f x ++ take m (drop n r)
    seq_take m = take-add n m r ∙ ap (λ t. t ++ take m (drop n r)) reads.is

    seq_longest : (m : ℕ) → Longest g (drop n r) m → Longest h r (n + m)
    seq_longest m longest = let b = longest.begins in record {
      within = omega (arith, longest.within, reads.longest.within, length-drop n r);
      begins = record {
        value = mk x b.value;
        rest = b.rest;
        is = makes x b.value ∙ ap (λ t. f x ++ t) b.is ∙ sym (append_assoc (f x) (take m (drop n r)) b.rest) ∙ ap (λ t. t ++ b.rest)
            (sym (seq_take m));
      };
      beyond = seq_beyond m longest;
    }

    pub stops_second : (m : ℕ) → StopsAt g (drop n r) m → StopsAt h r (n + m)
    stops_second m stop = record {
      none = λ z k e.
          let parts = free_cut f free (fst z) x (g (snd z) ++ drop k r) (drop n r)
          (sym (append_assoc (f (fst z)) (g (snd z)) (drop k r)) ∙ ap (λ t. t ++ drop k r) (sym (e ∙ splits z)) ∙ take-append-drop k r ∙ whole) in
          stop.none (snd z) (length (g (snd z))) (ap (take (length (g (snd z)))) (sym parts.1) ∙ take_at (g (snd z)) (drop k r) (length (g (snd z))) refl);
      longest = seq_longest m stop.longest;
    }

    pub reads_both : (y : Y) (m : ℕ) → ReadsFront g (drop n r) y m → ReadsFront h r (mk x y) (n + m)
    reads_both y m second = record {
      is = seq_take m ∙ ap (λ t. f x ++ t) second.is ∙ sym (makes x y);
      longest = seq_longest m second.longest;
    }

-- ---- a text with a byte behind it
abbrev pub closed_text : {X : Type 0} → (X → List ℕ) → ℕ → X → List ℕ
closed_text text c x = text x ++ (c ∷ [])

module _ {X : Type 0} (text : X → List ℕ) (separate : Separate text) (c : ℕ) (sign : NoDigit c) where
  pub closed_free : PrefixFree (closed_text text c)
  closed_free u v d t e =
      let parts = split text separate u v c c [] (d ∷ t) sign sign (e ∙ append_assoc (text v) (c ∷ []) (d ∷ t)) in
      omega (arith, ap length parts.1)

  module _ (r : List ℕ) where
    pub closed_stops : (n : ℕ) → StopsAt text r n → StopsAt (closed_text text c) r n
    closed_stops n stop = stops_first text (λ (u : Unit {0}). c ∷ []) (closed_text text c) (λ x. x) (λ _. tt) (λ x _. x) (λ x. refl) (λ x _. refl) r n tt stop

    module _ (x : X) (n : ℕ) (reads : ReadsFront text r x n) where
      pub closed_reads : n < length r → get_or r n 0 ≡ c → ReadsFront (closed_text text c) r x (n + 1)
      closed_reads within byte = free_reads (closed_text text c) closed_free r x (n + 1) (omega arith)
          (take_more r n 0 within ∙ ap₂ (λ (p : List ℕ) (b : ℕ). p ++ (b ∷ [])) reads.is byte)

      -- the byte is not there
      module _ (other : get_or r n 0 ≡ c → ⊥) where
        none : (y : X) (k : ℕ) → take k r ≡ text y ++ (c ∷ []) → ⊥
        none y k e = by (cut_both (text y) (c ∷ drop k r) (text x) (drop n r) same)
          where
            same : text y ++ (c ∷ drop k r) ≡ text x ++ drop n r
            same = sym (append_assoc (text y) (c ∷ []) (drop k r)) ∙ ap (λ t. t ++ drop k r) (sym e) ∙ take-append-drop k r
                ∙ sym (take-append-drop n r) ∙ ap (λ t. t ++ drop n r) reads.is

            first : (t : List ℕ) → c ∷ drop k r ≡ t → get_or t 0 0 ≡ c
            first t q = sym (ap (λ u. get_or u 0 0) q)

            by : Cut (text y) (c ∷ drop k r) (text x) (drop n r) → ⊥
            by (even p q) = let so : n ≡ n + 0 = omega arith in other (ap (λ i. get_or r i 0) so ∙ sym (get_or-drop n r 0 0) ∙ first (drop n r) q)
            by (left_short d t p q) = sign (subst (λ b. IsInRange 48 57 b) (sym (same_head q)) (separate.goes_on x y d t p))
            by (right_short d t p q) =
                let long : n < length (text y) = omega (
                  arith,
                  ap length p,
                  length-append (text x) (d ∷ t),
                  ap length reads.is,
                  length-take-le n r
                      reads.longest.within,
                ) in
                let front = front_of r (text y) (c ∷ []) k e in
                reads.longest.beyond (length (text y)) long (whole_within text r y _ front) (whole_begins text r y _ front)

        pub closed_misses : StopsAt (closed_text text c) r n
        closed_misses = record {
          none = none;
          longest = record {
            within = reads.longest.within;
            begins = record { value = x; rest = c ∷ []; is = ap (λ t. t ++ (c ∷ [])) (sym reads.is) };
            beyond = λ k past fits b. by k past fits b.value (cut_both (text b.value) (c ∷ []) (take k r) b.rest b.is);
          };
        }
          where
            by : (k : ℕ) → n < k → k ≤ length r → (y : X) {w : List ℕ} → Cut (text y) (c ∷ []) (take k r) w → ⊥
            by k past fits y (even p q) = reads.longest.beyond k past fits (record { value = y; rest = []; is = p ∙ sym (append-nil (take k r)) })
            by k past fits y (left_short d [] p q) = none y k (p ∙ ap (λ b. text y ++ (b ∷ [])) (sym (same_head q)))
            by k past fits y (left_short d (a ∷ t) p q) = omega (arith, ap length q)
            by k past fits y (right_short d t p q) = reads.longest.beyond k past fits (record { value = y; rest = d ∷ t; is = p })
