-- Reading a list from a place on, element by element.
use Rattle.std.proofs.Common.{◌≡◌, ℕ, ◌+◌, Bool, true, false, not, List, [], ◌∷◌, ◌++◌, length, get_or, drop, set, pos, Some, sym, refl, ap, ◌∙◌, subst, ap₂, inl, inr, append_assoc, append-nil, arith, lit<}
use lib.Seq.{sets}
use denote.Enum.Bare.{sameb}
use Rattle.values.specs.contracts.sign.Sign.{the_type}
use Rattle.std.specs.Bool.{MatchBool}
use Rattle.std.specs.List.{slice_get}
use Rattle.std.proofs.lemmas.List.{take_more, length_push}
use Rattle.std.proofs.lemmas.Option.{get_or_from_slice_get}
use Rattle.std.proofs.lemmas.Int.{int_wrap-add_left, int_wrap_fits}
use Rattle.monoid.specs.declared.int.Int.{Int}
use Rattle.monoid.specs.Ints.{width, int_zero, int_one, int_sum}
use Rattle.monoid.specs.IntsLemmas.{same_int}
use Rattle.types.specs.Types.{Ty, list}
use Rattle.lang.specs.Values.{Val}
use Rattle.lang.specs.Layout.{cells, count, flat_map}
use Rattle.texts.specs.declared.reader.Reader.{Reader}
use Rattle.values.specs.Lists.{ElementIs, NoElement, Opened}
use Rattle.values.specs.Reading.{ReadsFront}
use Rattle.values.specs.Signs.{byte_of}
use Rattle.values.specs.declared.sign.Sign.{Sign}
use Rattle.values.specs.declared.sign.Sign.TheVariants.{Comma, Bracket}
use Rattle.values.specs.Texts.{list_text}
use Rattle.texts.specs.Texts.{value_text}
use Rattle.texts.specs.Phrases.{Advanced, ByteRead, NoByte, NoSign, Stores, OpensList}
use Rattle.values.proofs.Lists.{element_opens, element_closes, list_stops, not_opened, just_opened, empty_read}
use Rattle.texts.proofs.Phrases.{ValueRead, ValueStops, rest_of, byte_is, rest_behind, byte_behind, advanced_then, next_byte, next_within, next_is, past_it}
use Rattle.texts.proofs.Stores.{set_first}
use Rattle.texts.proofs.Types.{value_separate}

-- ---- lengths as cells
count_none : int_zero ≡ count 0
count_none = same_int int_zero (count 0) (sym (int_wrap_fits width (pos 0) (record { sfits = lit< tt })))

count_more : (n : ℕ) → int_sum (count n) int_one ≡ count (n + 1)
count_more n = same_int (int_sum (count n) int_one) (count (n + 1)) (int_wrap-add_left width (pos n) (pos 1))

-- cells, one element more
each_push : {X : Type 0} (row : X → List Int) (xs : List X) (x : X) → flat_map row (xs ++ (x ∷ [])) ≡ flat_map row xs ++ row x
each_push row [] x = append-nil (row x)
each_push row (y ∷ xs) x = ap (λ t. row y ++ t) (each_push row xs x) ∙ sym (append_assoc (row y) (flat_map row xs) (row x))

-- ---- some elements are read, with long bytes behind the opening bracket
pub record Elements (t : Ty) (Is : List (Val t) → ℕ → Type 0) (from to : Reader) (header : ℕ) (n : Int) : Type 0 where
  pub at : Reader
  pub opens : OpensList header from at
  pub elements : List (Val t)
  pub long : ℕ
  pub is : Is elements (1 + long)
  pub moved : Advanced at to long (flat_map (cells t) elements)
  pub counted : n ≡ count (length elements)

-- more elements follow, or the list is closed
abbrev pub ListSoFar : Ty → Bool → Reader → Reader → ℕ → Int → Type 0
ListSoFar t true from to header n = Elements t (λ xs long. Opened (value_text t) (rest_of from) xs long) from to header n
ListSoFar t false from to header n = Elements t (λ xs long. ReadsFront (list_text (value_text t)) (rest_of from) xs long) from to header n

module _ (t : Ty) (from : Reader) where
  first_byte : get_or (rest_of from) 0 0 ≡ get_or from.text.now from.at 0
  first_byte = byte_behind from from 0 refl (omega arith)

  pub unopened_list : (p : ℕ) → NoByte 91 from p → ValueStops (list t) from p
  unopened_list p miss = record { long = 0; end = omega (arith, miss.end); is = not_opened (value_text t) (rest_of from) (λ e. miss.other (byte_is from.text.now from.at 90 (sym first_byte ∙ e))) }

  module _ (at : Reader) (header : ℕ) (opens : OpensList header from at) where
    first_is : get_or (rest_of from) 0 0 ≡ 91
    first_is = first_byte ∙ get_or_from_slice_get from.text.now from.at 91 0 opens.is

    second_is : get_or (rest_of from) 1 0 ≡ get_or at.text.now at.at 0
    second_is = byte_behind from at 1 opens.same_text opens.end

    list_begins : (to : Reader) (n : Int) → n ≡ int_zero → (slice_get at.text.now at.at ≡ Some 93 → ⊥) → Advanced at to 0 [] → ListSoFar t true from to header n
    list_begins to n none other moved = record {
      at = at;
      opens = opens;
      elements = [];
      long = 0;
      is = just_opened (value_text t) (rest_of from) first_is (λ e. other (byte_is at.text.now at.at 92 (sym second_is ∙ e)));
      moved = moved;
      counted = none ∙ count_none;
    }

    list_empty : (to : Reader) (n : Int) → n ≡ int_zero → ByteRead 93 at to → ListSoFar t false from to header n
    list_empty to n none closes = record {
      at = at;
      opens = opens;
      elements = [];
      long = 1;
      is = empty_read (value_text t) (rest_of from) (value_separate t) first_is (second_is ∙ get_or_from_slice_get at.text.now at.at 93 0 closes.is);
      moved = closes.moved;
      counted = none ∙ count_none;
    }

    pub list_opened : (to : Reader) (n : Int) (closed : Bool) → n ≡ int_zero → MatchBool closed (ByteRead 93 at to) ((slice_get at.text.now at.at ≡ Some 93 → ⊥) × Advanced at to 0 [])
        → ListSoFar t (not closed) from to header n
    list_opened to n true none closes = list_empty to n none closes
    list_opened to n false none other = list_begins to n none other.0 other.1

  -- the length is stored
  whole_list : (to end : Reader) (header : ℕ) (n : Int) → ListSoFar t false from to header n → Stores header n to end → ValueRead (list t) from end
  whole_list to end header n all store =
      let row = flat_map (cells t) all.elements in
      record {
        value = all.elements;
        long = 1 + all.long;
        is = all.is;
        moved = record {
          same_text = store.same_text ∙ all.moved.same_text ∙ all.opens.same_text;
          same_reference = store.same_reference ∙ all.moved.same_reference ∙ all.opens.same_reference;
          end = omega (arith, store.same_place, all.moved.end, all.opens.end);
          used = omega (arith, store.same_used, all.moved.used, all.opens.used);
          stored = store.stored
              ∙ ap₂ (λ (i : ℕ) (k : List Int). set k i n) all.opens.header_is (
              all.moved.stored ∙ ap₂ (λ (k : List Int) (i : ℕ). sets k i row) all.opens.stored all.opens.used
              )
              ∙ ap (λ m. set (sets from.cells.now (from.used + 1) row) from.used m) all.counted ∙ set_first row from.cells.now from.used (count (length all.elements));
        };
      }

  pub list_read : (to end : Reader) (header : ℕ) (n : Int) (more : Bool) → more ≡ false → ListSoFar t more from to header n → Stores header n to end → ValueRead (list t) from end
  list_read to end header n more none all store = whole_list to end header n (subst (λ b. ListSoFar t b from to header n) none all) store

  module _ (to : Reader) (header : ℕ) (n : Int) (more : Bool) (some : more ≡ true) (kept : ListSoFar t more from to header n) where
    so_far : ListSoFar t true from to header n
    so_far = subst (λ b. ListSoFar t b from to header n) some kept

    end_is : to.at ≡ from.at + (1 + so_far.long)
    end_is = omega (arith, so_far.moved.end, so_far.opens.end)

    later : drop (1 + so_far.long) (rest_of from) ≡ rest_of to
    later = rest_behind from to (1 + so_far.long) (so_far.moved.same_text ∙ so_far.opens.same_text) end_is

    stops : (m : ℕ) → NoElement (value_text t) (rest_of to) m → (p : ℕ) → p ≡ to.at + m → ValueStops (list t) from p
    stops m none p e = record {
      long = 1 + so_far.long + m;
      end = omega (arith, e, end_is);
      is = list_stops (value_text t) (value_separate t) (rest_of to) m none (rest_of from) so_far.elements (1 + so_far.long) so_far.is later;
    }

    pub stops_in_element : (p : ℕ) → ValueStops t to p → ValueStops (list t) from p
    stops_in_element p stop = stops stop.long (inl stop.is) p stop.end

    module _ (end : Reader) (reads : ValueRead t to end) where
      at_sign : get_or (rest_of to) reads.long 0 ≡ get_or end.text.now end.at 0
      at_sign = next_byte _ _ to end end reads

      pub no_sign : (p : ℕ) → NoSign end p → ValueStops (list t) from p
      no_sign p miss = stops reads.long (inr (reads.value, reads.is, (λ e. miss.no_comma (sym at_sign ∙ e)), (λ e. miss.no_bracket (sym at_sign ∙ e)))) p (miss.end ∙ reads.moved.end)

      module _ (sign : Sign) (behind : Reader) (byte : ByteRead (byte_of sign) end behind) (n' : Int) (one_more : n' ≡ int_sum n int_one) where
        element : ElementIs (value_text t) (drop (1 + so_far.long) (rest_of from)) reads.value sign (reads.long + 1)
        element =
            let within = next_within _ _ to end behind reads (byte_of sign) byte in
            subst (λ r. ElementIs (value_text t) r reads.value sign (reads.long + 1)) (sym later) (
            record {
              within = omega (arith, within);
              is = take_more (rest_of to) reads.long 0 within
                  ∙ ap₂ (λ (p : List ℕ) (b : ℕ). p ++ (b ∷ [])) reads.is.is (next_is _ _ to end behind reads (byte_of sign) byte);
            }
            )

        with_it : (Is : List (Val t) → ℕ → Type 0) → Is (so_far.elements ++ (reads.value ∷ [])) (1 + so_far.long + (reads.long + 1)) → Elements t Is from behind header n'
        with_it Is is = record {
          at = so_far.at;
          opens = so_far.opens;
          elements = so_far.elements ++ (reads.value ∷ []);
          long = so_far.long + (reads.long + 1);
          is = let so : 1 + so_far.long + (reads.long + 1) ≡ 1 + (so_far.long + (reads.long + 1)) = omega arith in subst (Is (so_far.elements ++ (reads.value ∷ []))) so is;
          moved = subst (Advanced so_far.at behind (so_far.long + (reads.long + 1))) (sym (each_push (cells t) so_far.elements reads.value)) (
              advanced_then so_far.at to so_far.long _ so_far.moved behind (reads.long + 1) (cells t reads.value) (past_it _ _ to end behind reads (byte_of sign) byte)
              );
          counted = one_more ∙ ap (λ m. int_sum m int_one) so_far.counted ∙ count_more (length so_far.elements) ∙ ap count
              (sym (length_push so_far.elements reads.value));
        }

      -- a comma is behind it, or the bracket
      list_goes_on : (behind : Reader) → ByteRead 44 end behind → (n' : Int) → n' ≡ int_sum n int_one → ListSoFar t true from behind header n'
      list_goes_on behind byte n' one_more = with_it Comma behind byte n' one_more _
          (element_opens (value_text t) (value_separate t) (rest_of from) so_far.elements (1 + so_far.long) so_far.is reads.value (reads.long + 1)
          (element Comma behind byte n' one_more))

      list_closes : (behind : Reader) → ByteRead 93 end behind → (n' : Int) → n' ≡ int_sum n int_one → ListSoFar t false from behind header n'
      list_closes behind byte n' one_more = with_it Bracket behind byte n' one_more _
          (element_closes (value_text t) (value_separate t) (rest_of from) so_far.elements (1 + so_far.long) so_far.is reads.value (reads.long + 1)
          (element Bracket behind byte n' one_more))

      pub list_steps : (behind : Reader) (sign : Sign) (on : Bool) → on ≡ sameb the_type sign Comma → ByteRead (byte_of sign) end behind → (n' : Int) → n' ≡ int_sum n int_one
          → ListSoFar t on from behind header n'
      list_steps behind Comma on same byte n' one_more = subst (λ b. ListSoFar t b from behind header n') (sym same) (list_goes_on behind byte n' one_more)
      list_steps behind Bracket on same byte n' one_more = subst (λ b. ListSoFar t b from behind header n') (sym same) (list_closes behind byte n' one_more)
