-- Reading a bool, from what a text has in common with both words.
use Rattle.std.proofs.Common.{◌≡◌, ℕ, ◌<◌, ◌≤◌, max, Bool, true, false, List, [], ◌++◌, length, get_or, take, drop, sym, ap, ◌∙◌, ⊎_elim, append-nil, arith, length-append, take-append-drop}
use Rattle.std.proofs.lemmas.List.{take_all, take_at, get_or-take, length-take-le}
use Rattle.std.proofs.lemmas.Bool.{cases_lt}
use Rattle.std.proofs.lemmas.Grind.{same_number_lists}
use Rattle.texts.specs.Bools.{Common}
use Rattle.values.specs.Reading.{Begins, ReadsFront, StopsAt}
use Rattle.texts.specs.Texts.{bool_text}
use Rattle.values.proofs.Fronts.{whole_is, whole_within}
use Rattle.values.proofs.Separate.{free_reads}
use Rattle.texts.proofs.Types.{bool_free}

module _ (word s : List ℕ) (n : ℕ) (c : Common word s n) where
  same_front : take n s ≡ take n word
  same_front = same_number_lists (take n s) (take n word)
      (length-take-le n s c.within ∙ sym (length-take-le n word c.inside))
      (λ k less.
      let below : k < n = omega (arith, less, length-take-le n s c.within) in
      get_or-take n s k 0 below ∙ c.same k below ∙ sym (get_or-take n word k 0 below))

  no_more : (k : ℕ) → n < k → k ≤ length s → k ≤ length word → take k s ≡ take k word → ⊥
  no_more k past fits-s fits-w e =
      c.beyond (omega arith) (omega arith) (sym (get_or-take k s n 0 past) ∙ ap (λ t. get_or t n 0) e ∙ get_or-take k word n 0 past)

module _ (s : List ℕ) where
  pub whole_word : (b : Bool) (n : ℕ) → Common (bool_text b) s n → n ≡ length (bool_text b) → ReadsFront bool_text s b n
  whole_word b n c all = free_reads bool_text bool_free s b n c.within (same_front (bool_text b) s n c ∙ take_all n (bool_text b) (omega (arith, all)))

  -- a beginning of s that begins the word of b is no longer than what both have in common
  no_longer : (b : Bool) (n k : ℕ) (r : List ℕ) → Common (bool_text b) s n → n < k → k ≤ length s → bool_text b ≡ take k s ++ r → ⊥
  no_longer b n k r c past fits e =
      let long : length (take k s) ≡ k = length-take-le k s fits in
      no_more (bool_text b) s n c k past fits (omega (arith, ap length e, length-append (take k s) r, long)) (sym (take_at (take k s) r k long) ∙ ap (take k) (sym e))

  front_begins : (b : Bool) (n : ℕ) → Common (bool_text b) s n → Begins bool_text (take n s)
  front_begins b n c = record {
    value = b;
    rest = drop n (bool_text b);
    is = sym (take-append-drop n (bool_text b)) ∙ ap (λ t. t ++ drop n (bool_text b))
        (sym (same_front (bool_text b) s n c));
  }

  module _ (yes no m : ℕ) (t : Common (bool_text true) s yes) (f : Common (bool_text false) s no) (p : yes ≡ 4 → ⊥) (q : no ≡ 5 → ⊥) where
    past : yes ≤ m → no ≤ m → (b : Bool) (k : ℕ) (r : List ℕ) → m < k → k ≤ length s → bool_text b ≡ take k s ++ r → ⊥
    past u v true k r more fits e = no_longer true yes k r t (omega arith) fits e
    past u v false k r more fits e = no_longer false no k r f (omega arith) fits e

    none : (b : Bool) (k : ℕ) → take k s ≡ bool_text b → ⊥
    none true k e =
        no_longer true yes (length (bool_text true)) [] t (omega (arith, p, t.inside)) (whole_within bool_text s true k e)
        (whole_is bool_text s true k e ∙ sym (append-nil _))
    none false k e =
        no_longer false no (length (bool_text false)) [] f (omega (arith, q, f.inside)) (whole_within bool_text s false k e)
        (whole_is bool_text s false k e ∙ sym (append-nil _))

    begins : m ≡ max yes no → Begins bool_text (take m s)
    begins e = ⊎_elim
        (λ (l : yes < no). let so : m ≡ no = omega arith in rw so (front_begins false no f))
        (λ (l : no ≤ yes). let so : m ≡ yes = omega arith in rw so (front_begins true yes t))
        (cases_lt yes no)

    pub no_word : m ≡ max yes no → StopsAt bool_text s m
    no_word e = record {
      none = none;
      longest = record {
        within = omega (arith, e, t.within, f.within);
        begins = begins e;
        beyond = λ k more fits b. past (omega (arith, e)) (omega (arith, e)) b.value k b.rest more fits b.is;
      };
    }
