-- Reading a list, element by element, and rows.
use Rattle.std.proofs.Common.{◌≡◌, ℕ, ◌+◌, ◌-◌, ◌<◌, ◌≤◌, List, [], ◌∷◌, ◌++◌, length, get_or, take, drop, IsErrAnd, Result, MatchResult, sum, sym, refl, ap, ◌∙◌, subst, ap₂, inr, ⊎_elim, append_assoc, append-nil, arith}
use Rattle.std.specs.List.{FoldsTo}
use Rattle.std.proofs.lemmas.Fn.{FoldsTo-push, chained_keeps}
use Rattle.std.proofs.lemmas.List.{take_rest, take_all, take_more, map_push, get_or-drop, get_or_past}
use Rattle.std.proofs.lemmas.Result.{err_from_is_err_and}
use Rattle.std.proofs.lemmas.Bool.{cases_lt}
use Rattle.monoid.specs.Segments.{concat}
use Rattle.monoid.proofs.Segments.{sum_lengths}
use Rattle.monoid.specs.declared.int.Int.{Int}
use Rattle.values.specs.Signs.{byte_of}
use Rattle.values.specs.declared.sign.Sign.{Sign}
use Rattle.values.specs.declared.sign.Sign.TheVariants.{Comma, Bracket}
use Rattle.values.specs.Lists.{Separate, Opened, ElementIs, NoElement, ReadsElement, ReadsList}
use Rattle.values.specs.Reading.{ReadsFront, StopsAt, NoText}
use Rattle.values.specs.Rows.{Stopping, Behind, Holds, RowsRead}
use Rattle.values.specs.declared.fault.ReadFault.{ReadFault}
use Rattle.values.specs.declared.fault.ReadFault.TheVariants.{NoValue, Memory}
use Rattle.values.specs.Texts.{int_text, list_text, row_text, rows_text}
use Rattle.values.proofs.IntTexts.{int_separate, same_text_int}
use Rattle.values.proofs.Lists.{element_opens, element_closes, list_stops, empty_read}
use Rattle.values.proofs.Separate.{list_separate, list_same}

-- ---- an element with no sign behind it, read where the code lends the rest of s
pub no_sign : {X K : Type 0} (text : X → List ℕ) (keeps : K → X → K → Type 0) (s : List ℕ) (at n : ℕ) (before after : K) → ReadsElement text keeps (take (length s - at) (drop at s)) n before after
    → (get_or s (at + n) 0 ≡ 44 → ⊥) → (get_or s (at + n) 0 ≡ 93 → ⊥) → Behind at (NoElement text (drop at s)) (at + n)
no_sign text keeps s at n before after lent p q =
    let here = get_or-drop at s n 0 in
    let reads = rw (take_rest s at) at lent in
    (n, refl, inr (reads.element, reads.is, (λ e. p (sym here ∙ e)), (λ e. q (sym here ∙ e))))

-- ---- a list that is open
module _ {X K : Type 0} (text : X → List ℕ) (keeps : K → X → K → Type 0) (s : List ℕ) where
  -- its elements so far were kept
  pub record ListOpened (at : ℕ) (before now : K) : Type 0 where
    pub elements : List X
    pub opened : Opened text s elements at
    pub kept : FoldsTo keeps before elements now

  module _ (separate : Separate text) where
    pub none_read : (k : K) (r : List ℕ) → s ≡ 91 ∷ 93 ∷ r → ReadsList text keeps s 2 k k
    none_read k r e = record { elements = []; is = empty_read text s separate (ap (λ t. get_or t 0 0) e) (ap (λ t. get_or t 1 0) e); kept = refl }

    module _ (at : ℕ) (before now : K) (so_far : ListOpened at before now) where
      pub element_stops : (f : ReadFault) → Stopping (Behind at (NoElement text (drop at s))) f → Stopping (StopsAt (list_text text) s) f
      element_stops (NoValue p) stop = subst (StopsAt (list_text text) s) (sym stop.1) (list_stops text separate (drop at s) stop.0 stop.2 s so_far.elements at so_far.opened refl)
      element_stops Memory stop = tt

      module _ (after : K) (end : ℕ) (reads : Behind at (λ n. ReadsElement text keeps (drop at s) n now after) end) where
        byte_is : get_or (drop at s) reads.0 0 ≡ get_or s end 0
        byte_is = get_or-drop at s reads.0 0 ∙ ap (λ i. get_or s i 0) (sym reads.1)

        -- a sign behind it lies within
        signed : (sign : Sign) → get_or s end 0 ≡ byte_of sign → (byte_of sign ≡ 0 → ⊥) → ElementIs text (drop at s) reads.2.element sign (reads.0 + 1)
        signed sign here some =
            let within : reads.0 < length (drop at s) =
            ⊎_elim (λ (l : reads.0 < length (drop at s)). l) (λ (l : length (drop at s) ≤ reads.0). absurd (some (sym (byte_is ∙ here) ∙ get_or_past (drop at s) reads.0 0 l))) (cases_lt reads.0 (length (drop at s))) in
            record {
              within = omega arith;
              is = take_more (drop at s) reads.0 0 within ∙ ap₂ (λ (p : List ℕ) (b : ℕ). p ++ (b ∷ [])) reads.2.is.is (byte_is ∙ here);
            }

        kept_more : FoldsTo keeps before (so_far.elements ++ (reads.2.element ∷ [])) after
        kept_more = FoldsTo-push keeps before so_far.elements now reads.2.element after so_far.kept reads.2.kept

        behind : at + (reads.0 + 1) ≡ end + 1
        behind = omega (arith, reads.1)

        pub comma_opens : get_or s end 0 ≡ 44 → ListOpened (end + 1) before after
        comma_opens e = record {
          elements = so_far.elements ++ (reads.2.element ∷ []);
          opened = subst (Opened text s _) behind (element_opens text separate s so_far.elements at so_far.opened _ _ (signed Comma e (λ z. omega arith)));
          kept = kept_more;
        }

        pub bracket_closes : get_or s end 0 ≡ 93 → ReadsList text keeps s (end + 1) before after
        bracket_closes e = record {
          elements = so_far.elements ++ (reads.2.element ∷ []);
          is = subst (ReadsFront (list_text text) s _) behind (element_closes text separate s so_far.elements at so_far.opened _ _ (signed Bracket e (λ z. omega arith)));
          kept = kept_more;
        }

-- the exit of a `?`, where the refusal is handed on
pub hands_on : {T : Type 0} (r : Result T ReadFault) (A : T → Type 0) (P Q : ReadFault → Type 0) → ((f : ReadFault) → P f → Q f) → (f : ReadFault) → IsErrAnd r (λ y. y ≡ f) → P f → MatchResult r A Q
hands_on r A P Q so f e p = let is = err_from_is_err_and r e in subst (λ t. MatchResult t A Q) (sym is.1) (subst Q (sym is.2) (so f p))

-- ---- the whole text
module _ {X : Type 0} (text : X → List ℕ) (s : List ℕ) where
  pub stops_whole : (f : ReadFault) → Stopping (StopsAt text s) f → Stopping (NoText text s) f
  stops_whole (NoValue p) stop = record { none = λ x e. stop.none x (length s) (take_all (length s) s (omega arith) ∙ e); longest = stop.longest }
  stops_whole Memory stop = tt

  pub more_follows : (n : ℕ) (x : X) → ReadsFront text s x n → n < length s → NoText text s n
  more_follows n x reads less = record {
    none = λ y e. reads.longest.beyond (length s) less (omega arith) (record { value = y; rest = []; is = sym (append-nil (take (length s) s) ∙ take_all (length s) s (omega arith) ∙ e) });
    longest = reads.longest;
  }

-- ---- ints and rows
pub row_separate : Separate row_text
row_separate = list_separate int_text int_separate

rows-only : (x y : List (List Int)) → rows_text x ≡ rows_text y → x ≡ y
rows-only = list_same row_text row_separate (list_same int_text int_separate same_text_int)

pub ints_kept : {V X : Type 0} (items : V → List X) (p q : V) (xs : List X) → FoldsTo (λ before x after. items after ≡ items before ++ (x ∷ [])) p xs q → items q ≡ items p ++ xs
ints_kept items p q xs =
    chained_keeps _ (λ xs q. items q ≡ items p ++ xs) (λ xs q x v so e. e ∙ ap (λ ys. ys ++ (x ∷ [])) so ∙ append_assoc (items p) xs (x ∷ [])) xs p q (sym (append-nil (items p)))

concat_push : (xss : List (List Int)) (xs : List Int) → concat (xss ++ (xs ∷ [])) ≡ concat xss ++ xs
concat_push [] xs = append-nil xs
concat_push (ys ∷ xss) xs = ap (λ zs. ys ++ zs) (concat_push xss xs) ∙ sym (append_assoc ys (concat xss) xs)

module _ {V : Type 0} (ints : V → List Int) (lengths : V → List ℕ) where
  pub rows_kept : (p q : V) (rows : List (List Int)) → ints p ≡ [] → lengths p ≡ []
      → FoldsTo (λ before row after. (ints after ≡ ints before ++ row) × (lengths after ≡ lengths before ++ (length row ∷ []))) p rows q → Holds rows (ints q) (lengths q)
  rows_kept p q rows none none' =
      chained_keeps _ (λ rows q. Holds rows (ints q) (lengths q))
      (λ rows q row v so e. record {
        all = e.0 ∙ ap (λ xs. xs ++ row) so.all ∙ sym (concat_push rows row);
        each = e.1 ∙ ap (λ d. d ++ (length row ∷ [])) so.each ∙ sym (map_push length rows row);
      }) rows p q (record { all = none; each = none' })

pub held_covers : (rows : List (List Int)) (ints : List Int) (lengths : List ℕ) → Holds rows ints lengths → sum lengths ≡ length ints
held_covers rows ints lengths held = ap sum held.each ∙ sum_lengths rows ∙ ap length (sym held.all)

pub whole_rows : (s : List ℕ) (n : ℕ) (rows : List (List Int)) (ints : List Int) (lengths : List ℕ) → ReadsFront rows_text s rows n → Holds rows ints lengths → length s ≤ n → RowsRead s ints lengths
whole_rows s n rows ints lengths reads held all =
    let is : s ≡ rows_text rows = sym (take_all n s all) ∙ reads.is in
    record { rows = rows; is = is; only = λ others e. rows-only others rows (sym e ∙ is); held = held }
