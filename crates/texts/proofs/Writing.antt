-- Texts written one behind the other.
use Rattle.std.proofs.Common.{◌≡◌, ℕ, ◌+◌, ◌^◌, ◌<◌, ◌≤◌, Bool, true, false, not, List, [], ◌∷◌, ◌++◌, length, get_or, take, drop, sym, refl, ap, ◌∙◌, subst, ap₂, append_assoc, arith, length-append, length-drop}
use lib.Seq.{sets}
use Rattle.std.proofs.lemmas.List.{take_more, drop_all, drop-drop}
use Rattle.monoid.specs.declared.int.Int.{Int}
use Rattle.monoid.specs.Ints.{int_zero, is_zero, flag}
use Rattle.types.specs.Types.{Ty, int, bool, pair, list}
use Rattle.lang.specs.Values.{Val, size, sum_by}
use Rattle.lang.specs.Layout.{cells, count, flat_map}
use Rattle.texts.specs.declared.writer.Writer.{Writer}
use Rattle.values.specs.Texts.{int_text, more_text, list_text}
use Rattle.texts.specs.Texts.{bool_text, pair_text, value_text}
use Rattle.texts.specs.Writing.{Adds, Puts, TakesCell, TakesCount, Lies, Writes}
use Rattle.texts.proofs.Stores.{sets_append}
use Rattle.texts.proofs.Types.{cells-size, size_some}

-- ---- one text behind another
adds_then : (t u : List ℕ) (k l : List Int) (p q r : Writer) → Adds t k p q → Adds u l q r → Adds (t ++ u) l p r
adds_then t u k l p q r a b = record {
  cells = b.cells;
  place = omega (arith, a.place, b.place, length-append t u);
  written = b.written ∙ ap₂ (λ (o : List ℕ) (i : ℕ). sets o i u) a.written a.place ∙ sym (sets_append t u p.out.now p.place);
}

-- some bytes behind a text, for no cells
puts_behind : (t u : List ℕ) (k : List Int) (p q r : Writer) → Adds t k p q → Puts u q r → p.place + length (t ++ u) < 2 ^ 64 → Adds (t ++ u) k p r
puts_behind t u k p q r a puts fits =
    let b = puts.adds (omega (arith, a.place, length-append t u)) in
    subst (λ l. Adds (t ++ u) l p r) a.cells (adds_then t u k q.cells.now p q r a b)

-- ---- bytes
pub puts_none : (p : Writer) → Puts [] p p
puts_none p = record { same_reference = refl; adds = λ _. record { cells = refl; place = omega arith; written = refl } }

puts_then : (t u : List ℕ) (p q r : Writer) → Puts t p q → Puts u q r → Puts (t ++ u) p r
puts_then t u p q r first second = record {
  same_reference = second.same_reference ∙ first.same_reference;
  adds = λ fits. puts_behind t u p.cells.now p q r (first.adds (omega (arith, length-append t u))) second fits;
}

pub puts_more : (bs : List ℕ) (i b : ℕ) (p q r : Writer) → i < length bs → b ≡ get_or bs i 0 → Puts (take i bs) p q → Puts (b ∷ []) q r → Puts (take (i + 1) bs) p r
puts_more bs i b p q r here is first second =
    subst (λ t. Puts t p r) (ap (λ c. take i bs ++ (c ∷ [])) is ∙ sym (take_more bs i 0 here)) (puts_then (take i bs) (b ∷ []) p q r first second)

-- the same type under another name
pub written_as : (t u : Ty) (p q : Writer) → t ≡ u → Writes u p q → Writes t p q
written_as t u p q e writes = subst (λ w. Writes w p q) (sym e) writes

-- ---- one cell
module _ (t : Ty) (x : Int) (p q r : Writer) (takes : TakesCell x p q) where
  first_cell : (y : Int) (rest : List Int) → p.cells.now ≡ y ∷ rest → x ≡ y
  first_cell y rest e = takes.is ∙ ap (λ l. get_or l 0 int_zero) e

  pub cell_written : (v : Val t) (y : Int) → cells t v ≡ y ∷ [] → (rest : List Int) → Lies t v rest p → Puts (value_text t v) q r → Adds (value_text t v) rest p r
  cell_written v y one rest lies puts =
      let a = puts.adds (omega (arith, lies.short, takes.place)) in
      record {
        cells = a.cells ∙ takes.cells ∙ ap (drop 1) (lies.is ∙ ap (λ k. k ++ rest) one);
        place = omega (arith, a.place, takes.place);
        written = a.written ∙ ap₂ (λ (o : List ℕ) (i : ℕ). sets o i (value_text t v)) (ap (λ o. o.now) takes.out) takes.place;
      }

module _ (x : Int) (p q r : Writer) (takes : TakesCell x p q) where
  pub int_written : Puts (int_text x) q r → Writes int p r
  int_written puts = record {
    same_reference = puts.same_reference ∙ ap (λ o. o.ghost_name) takes.out;
    adds = λ v rest lies.
        let same : x ≡ v = first_cell int x p q r takes v rest lies.is in
        cell_written int x p q r takes v v refl rest lies (subst (λ y. Puts (int_text y) q r) same puts);
  }

  same_flag : (v b : Bool) → is_zero (flag v) ≡ b → not b ≡ v
  same_flag true true e = cc
  same_flag true false e = refl
  same_flag false true e = refl
  same_flag false false e = cc

  pub bool_written : (b : Bool) → b ≡ is_zero x → Puts (bool_text (not b)) q r → Writes bool p r
  bool_written b zero puts = record {
    same_reference = puts.same_reference ∙ ap (λ o. o.ghost_name) takes.out;
    adds = λ v rest lies.
        let same : not b ≡ v = same_flag v b (ap is_zero (sym (first_cell bool x p q r takes (flag v) rest lies.is)) ∙ sym zero) in
        cell_written bool x p q r takes v (flag v) refl rest lies (subst (λ c. Puts (bool_text c) q r) same puts);
  }

-- ---- a pair
module _ (a b : Ty) (p q r s t u : Writer) (opens : Puts (40 ∷ []) p q) (left : Writes a q r) (comma : Puts (44 ∷ []) r s) (right : Writes b s t)
    (closes : Puts (41 ∷ []) t u) where
  pub pair_written : Writes (pair a b) p u
  pair_written = record {
    same_reference = closes.same_reference ∙ right.same_reference ∙ comma.same_reference ∙ left.same_reference ∙ opens.same_reference;
    adds = λ v rest lies.
        let ta = value_text a v.0 in
        let tb = value_text b v.1 in
        let long : length (pair_text (value_text a) (value_text b) v) ≡ length ta + length tb + 3 = omega (arith, length-append ta (44 ∷ (tb ++ (41 ∷ []))), length-append tb (41 ∷ [])) in
        let front = length-append (40 ∷ ta) (44 ∷ []) in
        let middle = length-append (40 ∷ ta ++ (44 ∷ [])) tb in
        let i = opens.adds (omega (arith, lies.short, long)) in
        let ii = left.adds v.0 (cells b v.1 ++ rest) (
        record { is = i.cells ∙ lies.is ∙ append_assoc (cells a v.0) (cells b v.1) rest; small = omega (arith, lies.small); short = omega (arith, lies.short, i.place, long) }
        ) in
        let iii = puts_behind (40 ∷ ta) (44 ∷ []) (cells b v.1 ++ rest) p r s (adds_then (40 ∷ []) ta _ _ p q r i ii) comma (omega (arith, lies.short, long, front)) in
        let iv = right.adds v.1 rest (record { is = iii.cells; small = omega (arith, lies.small); short = omega (arith, lies.short, iii.place, long, front) }) in
        let vi = puts_behind ((40 ∷ ta ++ (44 ∷ [])) ++ tb) (41 ∷ []) rest p t u (adds_then (40 ∷ ta ++ (44 ∷ [])) tb _ _ p s t iii iv) closes
        (omega (arith, lies.short, long, front, middle, length-append ((40 ∷ ta ++ (44 ∷ [])) ++ tb) (41 ∷ []))) in
        subst (λ w. Adds w rest p u) (simp append_assoc) vi;
  }

-- ---- a list: the elements before i are written, and the cells of those from i on are next
pub record Listing (t : Ty) (v : List (Val t)) (rest : List Int) (i : ℕ) (p q : Writer) : Type 0 where
  pub done : List ℕ
  pub adds : Adds done (flat_map (cells t) (drop i v) ++ rest) p q
  pub text : done ++ more_text (value_text t) (drop i v) ≡ list_text (value_text t) v
  pub few : sum_by (size t) (drop i v) ≤ sum_by (size t) v

pub record Listed (t : Ty) (n i : ℕ) (p q : Writer) : Type 0 where
  pub same_reference : q.out.ghost_name ≡ p.out.ghost_name
  pub listing : (v : List (Val t)) (rest : List Int) → Lies (list t) v rest p → (n ≡ length v) × Listing t v rest i p q

module _ (t : Ty) (n : ℕ) (p : Writer) where
  -- the opening bracket
  module _ (q r : Writer) (takes : TakesCount n p q) (opens : Puts (91 ∷ []) q r) where
    sum_long : (v : List (Val t)) → length v ≤ sum_by (size t) v
    sum_long [] = omega arith
    sum_long (x ∷ v) = omega (arith, sum_long v, size_some t x)

    list_long : (v : List (Val t)) → 1 ≤ length (list_text (value_text t) v)
    list_long [] = omega arith
    list_long (x ∷ v) = omega arith

    module _ (v : List (Val t)) (rest : List Int) (lies : Lies (list t) v rest p) where
      left : q.cells.now ≡ flat_map (cells t) v ++ rest
      left = takes.takes.cells ∙ ap (drop 1) lies.is

      counted : n ≡ length v
      counted = takes.counts (length v) (omega (arith, lies.small, sum_long v))
          (omega (arith, ap length left, length-append (flat_map (cells t) v) rest, cells-size (list t) v, sum_long v))
          (first_cell (list t) takes.cell p q r takes.takes (count (length v)) (flat_map (cells t) v ++ rest) lies.is)

      opened : Adds (91 ∷ []) (flat_map (cells t) v ++ rest) p r
      opened =
          let a = opens.adds (omega (arith, lies.short, takes.takes.place, list_long v)) in
          record {
            cells = a.cells ∙ left;
            place = omega (arith, a.place, takes.takes.place);
            written = a.written ∙ ap₂ (λ (o : List ℕ) (i : ℕ). sets o i (91 ∷ [])) (ap (λ o. o.now) takes.takes.out) takes.takes.place;
          }

    kept : r.out.ghost_name ≡ p.out.ghost_name
    kept = opens.same_reference ∙ ap (λ o. o.ghost_name) takes.takes.out

    -- an empty list
    pub none_listed : n ≤ 0 → Listed t n 0 p r
    none_listed none = record { same_reference = kept; listing = λ v rest lies. (counted v rest lies, by v rest (counted v rest lies) (opened v rest lies)) }
      where
        by : (v : List (Val t)) (rest : List Int) → n ≡ length v → Adds (91 ∷ []) (flat_map (cells t) v ++ rest) p r → Listing t v rest 0 p r
        by [] rest is a = record { done = 91 ∷ []; adds = a; text = refl; few = omega arith }
        by (x ∷ v) rest is a = absurd (omega (arith, none, is))

    -- the first element
    pub first_listed : (n ≡ 0 → ⊥) → (s : Writer) → Writes t r s → Listed t n 1 p s
    first_listed some s writes = record {
      same_reference = writes.same_reference ∙ kept;
      listing = λ v rest lies. (counted v rest lies, by v rest lies (counted v rest lies) (opened v rest lies));
    }
      where
        by : (v : List (Val t)) (rest : List Int) → Lies (list t) v rest p → n ≡ length v → Adds (91 ∷ []) (flat_map (cells t) v ++ rest) p r → Listing t v rest 1 p s
        by [] rest lies is a = absurd (some is)
        by (x ∷ v) rest lies is a = record {
          done = 91 ∷ value_text t x;
          adds = adds_then (91 ∷ []) (value_text t x) _ _ p r s a (
              writes.adds x (flat_map (cells t) v ++ rest) (
              record {
                is = a.cells ∙ append_assoc (cells t x) (flat_map (cells t) v) rest;
                small = omega (arith, lies.small);
                short = omega (arith, lies.short, a.place, length-append (value_text t x) (more_text (value_text t) v));
              }
              )
              );
          text = refl;
          few = omega arith;
        }

  -- one element more, behind a comma
  pub next_listed : (i : ℕ) (q r s : Writer) → Listed t n i p q → i < n → (b : ℕ) → b ≡ 44 → Puts (b ∷ []) q r → Writes t r s → Listed t n (i + 1) p s
  next_listed i q r s so_far here b is puts writes = record {
    same_reference = writes.same_reference ∙ puts.same_reference ∙ so_far.same_reference;
    listing = λ v rest lies. let l = so_far.listing v rest lies in (l.0, by v rest lies l.0 l.1 (drop i v) refl);
  }
    where
      comma : Puts (44 ∷ []) q r
      comma = subst (λ c. Puts (c ∷ []) q r) is puts

      by : (v : List (Val t)) (rest : List Int) → Lies (list t) v rest p → n ≡ length v → Listing t v rest i p q → (ys : List (Val t)) → drop i v ≡ ys → Listing t v rest (i + 1) p s
      by v rest lies is l [] e = absurd (omega (arith, ap length e, length-drop i v, is))
      by v rest lies is l (x ∷ xs) e =
          let past : drop (i + 1) v ≡ xs = sym (drop-drop 1 i v) ∙ ap (drop 1) e in
          let tx = value_text t x in
          let text : (l.done ++ (44 ∷ [])) ++ (tx ++ more_text (value_text t) xs) ≡ list_text (value_text t) v =
          append_assoc l.done (44 ∷ []) (tx ++ more_text (value_text t) xs) ∙ ap (λ ys. l.done ++ more_text (value_text t) ys) (sym e) ∙ l.text in
          let long = length-append (l.done ++ (44 ∷ [])) (tx ++ more_text (value_text t) xs) in
          let tail = length-append tx (more_text (value_text t) xs) in
          let sizes : size t x + sum_by (size t) xs ≤ sum_by (size t) v = omega (arith, l.few, ap (sum_by (size t)) e) in
          let signed = puts_behind l.done (44 ∷ []) _ p q r l.adds comma (omega (arith, lies.short, ap length text, long)) in
          record {
            done = (l.done ++ (44 ∷ [])) ++ tx;
            adds = subst (λ ys. Adds ((l.done ++ (44 ∷ [])) ++ tx) (flat_map (cells t) ys ++ rest) p s) (sym past) (
                adds_then (l.done ++ (44 ∷ [])) tx _ _ p r s signed (
                writes.adds x (flat_map (cells t) xs ++ rest) (
                record {
                  is = signed.cells ∙ ap (λ ys. flat_map (cells t) ys ++ rest) e ∙ append_assoc (cells t x) (flat_map (cells t) xs) rest;
                  small = omega (arith, lies.small, sizes);
                  short = omega (arith, lies.short, signed.place, ap length text, long, tail);
                }
                )
                )
                );
            text = append_assoc (l.done ++ (44 ∷ [])) tx (more_text (value_text t) (drop (i + 1) v)) ∙ ap (λ ys. (l.done ++ (44 ∷ [])) ++ (tx ++ more_text (value_text t) ys)) past ∙ text;
            few = omega (arith, sizes, ap (sum_by (size t)) past);
          }

  -- the closing bracket
  pub all_listed : (i : ℕ) (q q' r : Writer) → q' ≡ q → Listed t n i p q → n ≤ i → (b : ℕ) → b ≡ 93 → Puts (b ∷ []) q' r → Writes (list t) p r
  all_listed i q q' r same so_far end b is puts = record {
    same_reference = closes.same_reference ∙ so_far.same_reference;
    adds = λ v rest lies.
        let l = so_far.listing v rest lies in
        let none : drop i v ≡ [] = drop_all i v (omega (arith, l.0)) in
        let text : l.1.done ++ (93 ∷ []) ≡ list_text (value_text t) v = ap (λ ys. l.1.done ++ more_text (value_text t) ys) (sym none) ∙ l.1.text in
        let a = puts_behind l.1.done (93 ∷ []) _ p q r l.1.adds closes (omega (arith, lies.short, ap length text)) in
        subst (λ w. Adds w rest p r) text (subst (λ ys. Adds (l.1.done ++ (93 ∷ [])) (flat_map (cells t) ys ++ rest) p r) none a);
  }
    where
      closes : Puts (93 ∷ []) q r
      closes = subst (λ w. Puts (93 ∷ []) w r) same (subst (λ c. Puts (c ∷ []) q' r) is puts)
