-- Phrases from a place on, made of smaller ones.
use Rattle.std.proofs.Common.{◌≡◌, ℕ, zero, suc, ◌+◌, ◌<◌, ◌≤◌, List, [], ◌∷◌, ◌++◌, length, get_or, take, drop, IsErrAnd, Some, Result, sym, refl, ap, ◌∙◌, subst, ap₂, ⊎_elim, append_assoc, append-nil, arith, length-append, length-drop, MatchResult}
use lib.Seq.{sets}
use Rattle.std.specs.List.{slice_get}
use Rattle.std.proofs.lemmas.List.{drop-drop, get_or-drop, get_or_past}
use Rattle.std.proofs.lemmas.Option.{slice_get_within, slice_get-get_or, get_or_from_slice_get}
use Rattle.std.proofs.lemmas.Bool.{cases_lt}
use Rattle.std.proofs.lemmas.Result.{err_from_is_err_and}
use Rattle.monoid.specs.declared.int.Int.{Int}
use Rattle.types.specs.Types.{Ty, pair}
use Rattle.lang.specs.Values.{Val}
use Rattle.lang.specs.Layout.{cells}
use Rattle.texts.specs.declared.reader.Reader.{Reader}
use Rattle.values.specs.Reading.{ReadsFront, StopsAt}
use Rattle.texts.specs.Texts.{pair_text, value_text}
use Rattle.texts.specs.Phrases.{Advanced, ByteRead, NoByte, PhraseRead, PhraseStops}
use Rattle.values.proofs.Separate.{PrefixFree, NoDigit, free_reads, same_head}
use Rattle.texts.proofs.Sequences.{closed_text, stops_first, stops_second, reads_both, closed_free, closed_stops, closed_reads, closed_misses}
use Rattle.texts.proofs.Stores.{sets_append}
use Rattle.texts.proofs.Types.{value_separate, some_value, comma, bracket}

-- a value of the type t
abbrev pub ValueRead : Ty → Reader → Reader → Type 0
ValueRead t from to = PhraseRead (value_text t) (cells t) from to

abbrev pub ValueStops : Ty → Reader → ℕ → Type 0
ValueStops t from p = PhraseStops (value_text t) from p

-- the exit of a `?`
pub hands_on : {T F : Type 0} (r : Result T F) (A : T → Type 0) (Q : F → Type 0) (f : F) → IsErrAnd r (λ y. y ≡ f) → Q f → MatchResult r A Q
hands_on r A Q f e q = let p = err_from_is_err_and r e in subst (λ t. MatchResult t A Q) (sym p.1) (subst Q (sym p.2) q)

-- ---- what stands at a place
abbrev pub rest_of : Reader → List ℕ
rest_of p = drop p.at p.text.now

-- a byte that is not 0 lies within
pub byte_is : (s : List ℕ) (i c : ℕ) → get_or s i 0 ≡ suc c → slice_get s i ≡ Some (suc c)
byte_is s i c e = ⊎_elim
    (λ (l : i < length s). slice_get-get_or s i 0 l ∙ ap Some e)
    (λ (l : length s ≤ i). absurd (omega (arith, sym e ∙ get_or_past s i 0 l)))
    (cases_lt i (length s))

first_get : (s : List ℕ) (i : ℕ) → slice_get (drop i s) 0 ≡ slice_get s i
first_get s zero = refl
first_get [] (suc i) = refl
first_get (b ∷ s) (suc i) = first_get s i

module _ (p q : Reader) (n : ℕ) (same_text : q.text.now ≡ p.text.now) (end : q.at ≡ p.at + n) where
  pub rest_behind : drop n (rest_of p) ≡ rest_of q
  rest_behind = drop-drop n p.at p.text.now ∙ ap₂ (λ (i : ℕ) (s : List ℕ). drop i s) (sym end) (sym same_text)

  pub byte_behind : get_or (rest_of p) n 0 ≡ get_or q.text.now q.at 0
  byte_behind = get_or-drop p.at p.text.now n 0 ∙ ap₂ (λ (i : ℕ) (s : List ℕ). get_or s i 0) (sym end) (sym same_text)

module _ (p q : Reader) (n : ℕ) (row : List Int) (moved : Advanced p q n row) where
  pub advanced_then : (r : Reader) (m : ℕ) (row' : List Int) → Advanced q r m row' → Advanced p r (n + m) (row ++ row')
  advanced_then r m row' then = record {
    same_text = then.same_text ∙ moved.same_text;
    same_reference = then.same_reference ∙ moved.same_reference;
    end = omega (arith, moved.end, then.end);
    used = omega (arith, moved.used, then.used, length-append row row');
    stored = then.stored ∙ ap₂ (λ (k : List Int) (i : ℕ). sets k i row') moved.stored moved.used ∙ sym (sets_append row row' p.cells.now p.used);
  }

-- ---- a phrase, and the byte behind it
module _ {X : Type 0} (text : X → List ℕ) (row : X → List Int) (p q r : Reader) (reads : PhraseRead text row p q) where
  pub next_byte : get_or (rest_of p) reads.long 0 ≡ get_or q.text.now q.at 0
  next_byte = byte_behind p q reads.long reads.moved.same_text reads.moved.end

  module _ (c : ℕ) (byte : ByteRead c q r) where
    pub next_within : reads.long < length (rest_of p)
    next_within = omega (arith, slice_get_within q.text.now q.at c byte.is, length-drop p.at p.text.now, reads.moved.end, ap length reads.moved.same_text)

    pub next_is : get_or (rest_of p) reads.long 0 ≡ c
    next_is = next_byte ∙ get_or_from_slice_get q.text.now q.at c 0 byte.is

    pub past_it : Advanced p r (reads.long + 1) (row reads.value)
    past_it = rw append-nil at (advanced_then p q reads.long (row reads.value) reads.moved r 1 [] byte.moved)

-- ---- one phrase behind another, for a text h made of f and g
module _ {X Y Z : Type 0} (f : X → List ℕ) (g : Y → List ℕ) (h : Z → List ℕ) (fst : Z → X) (snd : Z → Y) (mk : X → Y → Z)
    (splits : (z : Z) → h z ≡ f (fst z) ++ g (snd z)) (makes : (x : X) (y : Y) → h (mk x y) ≡ f x ++ g y) (p : Reader) where
  first_stops : (n : ℕ) → Y → PhraseStops f p n → PhraseStops h p n
  first_stops n y stop = record { long = stop.long; end = stop.end; is = stops_first f g h fst snd mk splits makes (rest_of p) stop.long y stop.is }

  module _ (free : PrefixFree f) (row : X → List Int) (q : Reader) (reads : PhraseRead f row p q) where
    second_stops : (n : ℕ) → PhraseStops g q n → PhraseStops h p n
    second_stops n stop = record {
      long = reads.long + stop.long;
      end = omega (arith, stop.end, reads.moved.end);
      is = stops_second f g h fst snd mk splits makes (rest_of p) free reads.value reads.long reads.is stop.long
          (subst (λ r. StopsAt g r stop.long) (sym (rest_behind p q reads.long reads.moved.same_text reads.moved.end)) stop.is);
    }

    both_read : (row' : Y → List Int) (row'' : Z → List Int) → ((x : X) (y : Y) → row'' (mk x y) ≡ row x ++ row' y)
        → (r : Reader) → PhraseRead g row' q r → PhraseRead h row'' p r
    both_read row' row'' joins r second = record {
      value = mk reads.value second.value;
      long = reads.long + second.long;
      is = reads_both f g h fst snd mk splits makes (rest_of p) free reads.value reads.long reads.is second.value second.long
          (subst (λ t. ReadsFront g t second.value second.long) (sym (rest_behind p q reads.long reads.moved.same_text reads.moved.end)) second.is);
      moved = subst (λ cs. Advanced p r (reads.long + second.long) cs) (sym (joins reads.value second.value))
          (advanced_then p q reads.long (row reads.value) reads.moved r second.long (row' second.value) second.moved);
    }

-- ---- a byte
abbrev byte_text : ℕ → Unit {0} → List ℕ
byte_text c u = c ∷ []

abbrev no_cells : {X : Type 0} → X → List Int
no_cells x = []

byte_free : (c : ℕ) → PrefixFree (byte_text c)
byte_free c u v d r e = omega (arith, ap length e)

first_is : (r : List ℕ) (c : ℕ) → slice_get r 0 ≡ Some c → take 1 r ≡ c ∷ []
first_is [] c e = cc
first_is (b ∷ r) c e = cc

byte_read : (c : ℕ) (p q : Reader) → ByteRead c p q → PhraseRead (byte_text c) no_cells p q
byte_read c p q byte =
    let is : slice_get (rest_of p) 0 ≡ Some c = first_get p.text.now p.at ∙ byte.is in
    record {
      value = tt;
      long = 1;
      is = free_reads (byte_text c) (byte_free c) (rest_of p) tt 1 (slice_get_within (rest_of p) 0 c is) (first_is (rest_of p) c is);
      moved = byte.moved;
    }

byte_misses : (c : ℕ) (p : Reader) (n : ℕ) → NoByte c p n → PhraseStops (byte_text c) p n
byte_misses c p n miss = record {
  long = 0;
  end = omega (arith, miss.end);
  is = record {
    none = λ u k e. no (first (rest_of p) k [] e);
    longest = record { within = omega arith; begins = record { value = tt; rest = c ∷ []; is = refl }; beyond = λ k past fits b. no (start (rest_of p) k past fits b.rest b.is) };
  };
}
  where
    no : slice_get (rest_of p) 0 ≡ Some c → ⊥
    no e = miss.other (sym (first_get p.text.now p.at) ∙ e)

    first : (r : List ℕ) (k : ℕ) (t : List ℕ) → take k r ≡ c ∷ t → slice_get r 0 ≡ Some c
    first r zero t e = absurd (omega (arith, ap length e))
    first [] (suc k) t e = absurd (omega (arith, ap length e))
    first (b ∷ r) (suc k) t e = ap Some (same_head e)

    start : (r : List ℕ) (k : ℕ) → 0 < k → k ≤ length r → (t : List ℕ) → c ∷ [] ≡ take k r ++ t → slice_get r 0 ≡ Some c
    start r zero past fits t e = absurd (omega arith)
    start [] (suc k) past fits t e = absurd (omega arith)
    start (b ∷ r) (suc k) past fits t e = ap Some (sym (same_head e))

-- ---- a half of a pair, with the byte behind it
module _ (t : Ty) (c : ℕ) (plain : NoDigit (suc c)) (p : Reader) where
  half_stops : (n : ℕ) → ValueStops t p n → PhraseStops (closed_text (value_text t) (suc c)) p n
  half_stops n stop = record {
    long = stop.long;
    end = stop.end;
    is = closed_stops (value_text t) (value_separate t) (suc c) plain (rest_of p) stop.long stop.is;
  }

  module _ (q : Reader) (reads : ValueRead t p q) where
    half_read : (r : Reader) → ByteRead (suc c) q r → PhraseRead (closed_text (value_text t) (suc c)) (cells t) p r
    half_read r byte = record {
      value = reads.value;
      long = reads.long + 1;
      is = closed_reads (value_text t) (value_separate t) (suc c) plain (rest_of p) reads.value reads.long reads.is
          (next_within _ _ p q r reads (suc c) byte) (next_is _ _ p q r reads (suc c) byte);
      moved = past_it _ _ p q r reads (suc c) byte;
    }

    half_misses : (n : ℕ) → NoByte (suc c) q n → PhraseStops (closed_text (value_text t) (suc c)) p n
    half_misses n miss = record {
      long = reads.long;
      end = miss.end ∙ reads.moved.end;
      is = closed_misses (value_text t) (value_separate t) (suc c) plain (rest_of p) reads.value reads.long reads.is
          (λ e. miss.other (byte_is q.text.now q.at c (sym (next_byte _ _ p q q reads) ∙ e)));
    }

-- ---- a pair
module _ (a b : Ty) where
  abbrev inner : Val a × Val b → List ℕ
  inner v = closed_text (value_text a) 44 v.0 ++ closed_text (value_text b) 41 v.1

  abbrev pairs : Val a × Val b → List ℕ
  pairs = pair_text (value_text a) (value_text b)

  led : (v : Val a × Val b) → pairs v ≡ (40 ∷ []) ++ inner v
  led v = ap (λ r. 40 ∷ r) (sym (append_assoc (value_text a v.0) (44 ∷ []) (value_text b v.1 ++ (41 ∷ []))))

  left_free : PrefixFree (closed_text (value_text a) 44)
  left_free = closed_free (value_text a) (value_separate a) 44 comma

  module _ (p : Reader) where
    pub unopened_pair : (n : ℕ) → NoByte 40 p n → ValueStops (pair a b) p n
    unopened_pair n miss = first_stops (byte_text 40) inner pairs (λ _. tt) (λ v. v) (λ _ v. v) led (λ _. led) p n (some_value (pair a b)) (byte_misses 40 p n miss)

    module _ (q : Reader) (opens : ByteRead 40 p q) where
      behind : (n : ℕ) → PhraseStops inner q n → ValueStops (pair a b) p n
      behind n stop = second_stops (byte_text 40) inner pairs (λ _. tt) (λ v. v) (λ _ v. v) led (λ _. led) p (byte_free 40) no_cells q (byte_read 40 p q opens) n stop

      in_left : (n : ℕ) → PhraseStops (closed_text (value_text a) 44) q n → ValueStops (pair a b) p n
      in_left n stop = behind n (
          first_stops (closed_text (value_text a) 44) (closed_text (value_text b) 41) inner (λ v. v.0) (λ v. v.1) (λ x y. (x, y))
          (λ v. refl) (λ x y. refl) q n (some_value b) stop
          )

      pub stops_in_left : (n : ℕ) → ValueStops a q n → ValueStops (pair a b) p n
      stops_in_left n stop = in_left n (half_stops a 43 comma q n stop)

      module _ (r : Reader) (left : ValueRead a q r) where
        pub no_comma : (n : ℕ) → NoByte 44 r n → ValueStops (pair a b) p n
        no_comma n miss = in_left n (half_misses a 43 comma q r left n miss)

        module _ (s : Reader) (comma_read : ByteRead 44 r s) where
          in_right : (n : ℕ) → PhraseStops (closed_text (value_text b) 41) s n → ValueStops (pair a b) p n
          in_right n stop = behind n (
              second_stops (closed_text (value_text a) 44) (closed_text (value_text b) 41) inner (λ v. v.0) (λ v. v.1) (λ x y. (x, y))
              (λ v. refl) (λ x y. refl) q left_free (cells a) s (half_read a 43 comma q r left s comma_read) n stop
              )

          pub stops_in_right : (n : ℕ) → ValueStops b s n → ValueStops (pair a b) p n
          stops_in_right n stop = in_right n (half_stops b 40 bracket s n stop)

          module _ (t : Reader) (right : ValueRead b s t) where
            pub unclosed_pair : (n : ℕ) → NoByte 41 t n → ValueStops (pair a b) p n
            unclosed_pair n miss = in_right n (half_misses b 40 bracket s t right n miss)

            pub pair_read : (u : Reader) → ByteRead 41 t u → ValueRead (pair a b) p u
            pair_read u closes =
                both_read (byte_text 40) inner pairs (λ _. tt) (λ v. v) (λ _ v. v) led (λ _. led) p (byte_free 40) no_cells q (byte_read 40 p q opens)
                (cells (pair a b)) (cells (pair a b)) (λ _ v. refl) u (
                both_read (closed_text (value_text a) 44) (closed_text (value_text b) 41) inner (λ v. v.0) (λ v. v.1) (λ x y. (x, y))
                (λ v. refl) (λ x y. refl) q left_free (cells a) s (half_read a 43 comma q r left s comma_read)
                (cells b) (cells (pair a b)) (λ x y. refl) u (half_read b 40 bracket s t right u closes)
                )
