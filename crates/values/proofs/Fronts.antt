-- Beginnings of texts.
use Rattle.std.proofs.Common.{◌≡◌, ℕ, ◌<◌, ◌≤◌, List, [], length, take, sym, ap, ◌∙◌, append-nil, arith, length-take}
use Rattle.std.proofs.lemmas.List.{take_min}
use Rattle.values.specs.Reading.{Begins, ReadsFront}

take-length : (s : List ℕ) (k : ℕ) → take (length (take k s)) s ≡ take k s
take-length s k = rw length-take (take_min k s)

module _ {X : Type 0} (text : X → List ℕ) (s : List ℕ) where
  -- a beginning that is a text, by the text's length
  pub whole_is : (x : X) (k : ℕ) → take k s ≡ text x → text x ≡ take (length (text x)) s
  whole_is x k e = sym (ap (λ xs. take (length xs) s) (sym e) ∙ take-length s k ∙ e)

  pub whole_begins : (x : X) (k : ℕ) → take k s ≡ text x → Begins text (take (length (text x)) s)
  whole_begins x k e = record { value = x; rest = []; is = whole_is x k e ∙ sym (append-nil (take (length (text x)) s)) }

  pub whole_within : (x : X) (k : ℕ) → take k s ≡ text x → length (text x) ≤ length s
  whole_within x k e = omega (arith, ap length e, length-take k s)

  pub read_front : (x : X) (n : ℕ) → n ≤ length s → take n s ≡ text x → ((k : ℕ) → n < k → k ≤ length s → Begins text (take k s) → ⊥) → ReadsFront text s x n
  read_front x n within e beyond = record {
    is = e;
    longest = record { within = within; begins = record { value = x; rest = []; is = sym (append-nil (take n s) ∙ e) }; beyond = beyond };
  }
