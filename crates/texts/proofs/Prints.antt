-- Printing a whole value.
use Rattle.std.proofs.Common.{◌≡◌, ℕ, ◌+◌, ◌*◌, ◌<◌, ◌≤◌, true, false, List, [], ◌∷◌, ◌++◌, length, drop, sym, refl, ap, ◌∙◌, subst, zero-add, arith, length-append, take-append-drop}
use lib.Seq.{sets, sets-eq}
use Rattle.std.proofs.lemmas.Fmt.{length_signed_le}
use Rattle.types.specs.Types.{Ty, int, bool, pair, list}
use Rattle.lang.specs.Values.{Val, size, sum_by}
use Rattle.texts.specs.declared.writer.Writer.{Writer}
use Rattle.values.specs.Printing.{Printed, Short}
use Rattle.texts.specs.Printing.{Holds}
use Rattle.values.specs.Texts.{more_text, list_text}
use Rattle.texts.specs.Texts.{value_text}
use Rattle.texts.specs.Writing.{Adds, Writes}

-- ---- a text has at most fourteen bytes a cell
module _ {X : Type 0} (text : X → List ℕ) (big : X → ℕ) (few : (x : X) → length (text x) + 3 ≤ 14 * big x) where
  more_few : (xs : List X) → length (more_text text xs) ≤ 1 + 14 * sum_by big xs
  more_few [] = omega arith
  more_few (x ∷ xs) = omega (arith, few x, more_few xs, length-append (text x) (more_text text xs))

  list_few : (xs : List X) → length (list_text text xs) + 3 ≤ 14 * (1 + sum_by big xs)
  list_few [] = omega arith
  list_few (x ∷ xs) = omega (arith, few x, more_few xs, length-append (text x) (more_text text xs))

text_few : (t : Ty) (v : Val t) → length (value_text t v) + 3 ≤ 14 * size t v
text_few int v = omega (arith, length_signed_le 10 v.value (omega (arith, v.ok)) (omega (arith, v.ok)))
text_few bool true = omega arith
text_few bool false = omega arith
text_few (pair a b) v =
    omega (
      arith,
      text_few a v.0,
      text_few b v.1,
      length-append (value_text a v.0) (44 ∷ (value_text b v.1 ++ (41 ∷ []))),
      length-append
          (value_text b v.1) (41 ∷ []),
    )
text_few (list a) v = list_few (value_text a) (size a) (text_few a) v

module _ (t : Ty) (v : Val t) where
  added : (from to : Writer) → from.place ≡ 0 → Holds t v from.cells.now → Writes t from to → Adds (value_text t v) (drop (size t v) from.cells.now) from to
  added from to start holds writes = writes.adds v (drop (size t v) from.cells.now) (
      record {
        is = sym (take-append-drop (size t v) from.cells.now) ∙ ap (λ k. k ++ drop (size t v) from.cells.now) holds.is;
        small = holds.small;
        short = omega (arith, start, holds.small, text_few t v);
      }
      )

  -- the text was counted
  module _ (from counted : Writer) (start : from.place ≡ 0) (holds : Holds t v from.cells.now) (counts : Writes t from counted) where
    needed : counted.place ≡ length (value_text t v)
    needed = omega (arith, start, (added from counted start holds counts).place)

    pub short : (out : List ℕ) → length out < counted.place → Short (value_text t v) counted.place out out
    short out less = record { length_is = needed; less = less; same = refl }

    pub printed : (again to : Writer) → again.place ≡ 0 → again.cells.now ≡ from.cells.now → Writes t again to → counted.place ≤ length again.out.now
        → (after : List ℕ) → after ≡ to.out.now → Printed (value_text t v) counted.place again.out.now after
    printed again to start' same writes fits after lent =
        let a = added again to start' (subst (λ k. Holds t v k) (sym same) holds) writes in
        record {
          length_is = needed;
          written = lent ∙ a.written ∙ ap (λ i. sets again.out.now i (value_text t v)) start' ∙ sets-eq (value_text t v) again.out.now 0 (omega (arith, fits, needed))
              ∙ ap (λ n. value_text t v ++ drop n again.out.now) (zero-add (length (value_text t v)));
        }
