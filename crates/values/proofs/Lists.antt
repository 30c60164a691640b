-- Reading a list, from reading its elements.
use Rattle.std.proofs.Common.{◌≡◌, ℕ, zero, suc, ◌+◌, ◌-◌, ◌<◌, ◌≤◌, ◌⊎◌, List, [], ◌∷◌, ◌++◌, length, get_or, take, drop, sym, refl, ap, ◌∙◌, ap₂, inl, inr, ⊎_elim, append_assoc, append-nil, arith, length-append, length-drop, take-append-drop}
use Rattle.std.proofs.Math.Seq.{take-add}
use Rattle.std.proofs.lemmas.List.{take-take, take_at, take-append-le, take_more, length-take-le, get_or-take, get_or-drop, get_or_at, get_or_append_left}
use Rattle.std.proofs.lemmas.Bool.{cases_lt}
use Rattle.std.proofs.lemmas.Grind.{common_steps}
use Rattle.std.proofs.Common.{rules}
use Rattle.values.specs.Reading.{Begins, Longest, ReadsFront, StopsAt}
use Rattle.values.specs.Texts.{more_text, list_text}
use Rattle.values.specs.Signs.{byte_of}
use Rattle.values.specs.declared.sign.Sign.{Sign}
use Rattle.values.specs.declared.sign.Sign.TheVariants.{Comma, Bracket}
use Rattle.values.specs.Lists.{Separate, ElementIs, NoElement, each_text, Opened}
use Rattle.values.proofs.Fronts.{whole_is, whole_within}
use Rattle.values.proofs.Separate.{IsSign, no_digit, more_sign, split, no_bracket, list_free, free_reads, same_head, same_tail}

-- a beginning, and the byte behind it
take_over : (k m : ℕ) (s : List ℕ) → k < m → m ≤ length s → take m s ≡ take k s ++ (get_or s k 0 ∷ take (m - (k + 1)) (drop (k + 1) s))
take_over k m s less fits =
    let so : k + 1 + (m - (k + 1)) ≡ m = omega arith in
    ap (λ i. take i s) (sym so) ∙ take-add (k + 1) (m - (k + 1)) s
    ∙ ap (λ p. p ++ take (m - (k + 1)) (drop (k + 1) s)) (take_more s k 0 (omega arith))
    ∙ append_assoc (take k s) (get_or s k 0 ∷ []) (take (m - (k + 1)) (drop (k + 1) s))

module _ {X : Type 0} (text : X → List ℕ) where
  -- a list that goes on with the element y
  each_on : (xs : List X) (y : X) (ys : List X) → more_text text (xs ++ (y ∷ ys)) ≡ 44 ∷ (each_text text xs ++ (text y ++ more_text text ys))
  each_on [] y ys = refl
  each_on (x ∷ xs) y ys =
      ap (λ t. 44 ∷ (text x ++ t)) (each_on xs y ys) ∙ ap (λ t. 44 ∷ t) (sym (append_assoc (text x) (44 ∷ each_text text xs) (text y ++ more_text text ys)))

  pub open_on : (xs : List X) (y : X) (ys : List X) → list_text text (xs ++ (y ∷ ys)) ≡ (91 ∷ each_text text xs) ++ (text y ++ more_text text ys)
  open_on [] y ys = refl
  open_on (x ∷ xs) y ys = ap (λ t. 91 ∷ (text x ++ t)) (each_on xs y ys) ∙ ap (λ t. 91 ∷ t) (sym (append_assoc (text x) (44 ∷ each_text text xs) (text y ++ more_text text ys)))

  pub each_push : (xs : List X) (x : X) → each_text text (xs ++ (x ∷ [])) ≡ each_text text xs ++ (text x ++ (44 ∷ []))
  each_push [] x = refl
  each_push (y ∷ xs) x = ap (λ t. text y ++ (44 ∷ t)) (each_push xs x) ∙ sym (append_assoc (text y) (44 ∷ each_text text xs) (text x ++ (44 ∷ [])))

  each_long : (xs : List X) → length xs ≤ length (each_text text xs)
  each_long [] = omega arith
  each_long (x ∷ xs) = omega (arith, each_long xs, length-append (text x) (44 ∷ each_text text xs))

  -- an opened list has fewer elements than bytes
  pub few : (s : List ℕ) (xs : List X) (at : ℕ) → Opened text s xs at → length xs < at
  few s xs at opened = omega (arith, each_long xs, ap length opened.is, length-take-le at s opened.within)

  module _ (separate : Separate text) where
    -- what follows an opened list begins with an element
    each_then : (v : X) (vs xs : List X) (t : List ℕ) → text v ++ more_text text vs ≡ each_text text xs ++ t → (y : X) × (ys : List X) × (t ≡ text y ++ more_text text ys)
    each_then v vs [] t e = (v, vs, sym e)
    each_then v [] (x ∷ xs) t e =
        let parts = split text separate v x 93 44 [] (each_text text xs ++ t) (no_digit 93 (inr refl)) (no_digit 44 (inl refl)) (e ∙ append_assoc (text x) (44 ∷ each_text text xs) t) in
        absurd (let z : ◌≡◌ {A = ℕ} 93 44 = same_head parts.1 in omega (arith, z))
    each_then v (w ∷ ws) (x ∷ xs) t e =
        let parts = split text separate v x 44 44 (text w ++ more_text text ws) (each_text text xs ++ t) (no_digit 44 (inl refl)) (no_digit 44 (inl refl)) (e ∙ append_assoc (text x) (44 ∷ each_text text xs) t) in
        each_then w ws xs t (same_tail parts.1)

    -- an element is wanted, unless the list was just opened and is closed at once
    open_then : (vs xs : List X) (t : List ℕ) → list_text text vs ≡ (91 ∷ each_text text xs) ++ t
        → ((length xs ≡ 0) × (t ≡ 93 ∷ [])) ⊎ ((y : X) × (ys : List X) × (t ≡ text y ++ more_text text ys))
    open_then [] [] t e = inl (refl, sym (same_tail e))
    open_then [] (x ∷ xs) t e = absurd (no_bracket text separate x [] (44 ∷ (each_text text xs ++ t)) (same_tail e ∙ append_assoc (text x) (44 ∷ each_text text xs) t))
    open_then (v ∷ vs) xs t e = inr (each_then v vs xs t (same_tail e))

    -- ---- no element
    module _ (rest : List ℕ) (n : ℕ) (stop : NoElement text rest n) where
      longest_of : Longest text rest n
      longest_of = ⊎_elim (λ (s : StopsAt text rest n). s.longest) (λ w. w.1.longest) stop

      -- an element whose text is a beginning of what is there, with its sign behind it
      blocked : (y : X) (m : ℕ) → IsSign m → (l : ℕ) → l < length rest → take l rest ≡ text y → get_or rest l 0 ≡ m → ⊥
      blocked y m sign l within is byte = ⊎_elim
          (λ (s : StopsAt text rest n). s.none y l is)
          (λ (w : (x : X) × ReadsFront text rest x n × (get_or rest n 0 ≡ 44 → ⊥) × (get_or rest n 0 ≡ 93 → ⊥)). ⊎_elim
          (λ (past : n < l). longest_of.beyond l past (omega arith) (record { value = y; rest = []; is = sym (append-nil (take l rest) ∙ is) }))
          (λ (upto : l ≤ n). ⊎_elim
          (λ (less : l < n). no_digit m sign (separate.goes_on w.0 y m (take (n - (l + 1)) (drop (l + 1) rest))
          (sym w.1.is ∙ take_over l n rest less longest_of.within ∙ ap₂ (λ (p : List ℕ) (b : ℕ). p ++ b ∷ take (n - (l + 1)) (drop (l + 1) rest)) is byte)))
          (λ (same : n ≤ l).
          let at : l ≡ n = omega arith in
          ⊎_elim (λ (e : m ≡ 44). w.2 (ap (λ i. get_or rest i 0) (sym at) ∙ byte ∙ e)) (λ (e : m ≡ 93). w.3 (ap (λ i. get_or rest i 0) (sym at) ∙ byte ∙ e)) sign)
          (cases_lt l n))
          (cases_lt n l))
          stop

      -- no list goes on with what is there, neither past the stop nor to its end
      no_more : (y : X) (ys : List X) (j : ℕ) (z : List ℕ) → j ≤ length rest → ((n < j) ⊎ (z ≡ [])) → take j rest ++ z ≡ text y ++ more_text text ys → ⊥
      no_more y ys j z fits way e =
          let p = more_sign text ys in
          let l = length (text y) in
          let long : length (take j rest) ≡ j = length-take-le j rest fits in
          let all : text y ++ (p.0 ∷ p.1) ≡ take j rest ++ z = ap (λ t. text y ++ t) (sym p.3) ∙ sym e in
          ⊎_elim
          (λ (less : l < j).
          let front : take l rest ≡ text y = sym (take-take l j rest (omega arith)) ∙ sym (take-append-le l (take j rest) z (omega arith)) ∙ ap (take l) (sym all) ∙ take_at (text y) (p.0 ∷ p.1) l refl in
          let byte : get_or rest l 0 ≡ p.0 = sym (get_or-take j rest l 0 less) ∙ sym (get_or_append_left (take j rest) z 0 l (omega arith)) ∙ ap (λ t. get_or t l 0) (sym all) ∙ get_or_at (text y) p.0 p.1 0 l refl in
          blocked y p.0 p.2 l (omega arith) front byte)
          (λ (more : j ≤ l). ⊎_elim
          (λ (past : n < j).
          let inside : take j (text y) ≡ take j rest =
          sym (take-append-le j (text y) (p.0 ∷ p.1) more) ∙ ap (take j) all ∙ take_at (take j rest) z j long in
          longest_of.beyond j past fits (record { value = y; rest = drop j (text y); is = sym (take-append-drop j (text y)) ∙ ap (λ t. t ++ drop j (text y)) inside }))
          (λ (none : z ≡ []).
          let same : length (text y ++ (p.0 ∷ p.1)) ≡ j = ap length (all ∙ ap (λ t. take j rest ++ t) none ∙ append-nil (take j rest)) ∙ long in
          omega (arith, same, length-append (text y) (p.0 ∷ p.1)))
          way)
          (cases_lt l j)

      -- ---- the list
      module _ (s : List ℕ) (xs : List X) (at : ℕ) (opened : Opened text s xs at) (is-rest : drop at s ≡ rest) where
        cut_at : (m : ℕ) → take (at + m) s ≡ (91 ∷ each_text text xs) ++ take m rest
        cut_at m = take-add at m s ∙ ap₂ (λ (a b : List ℕ). a ++ b) opened.is (ap (take m) is-rest)

        rest_long : length rest ≡ length s - at
        rest_long = ap length (sym is-rest) ∙ length-drop at s

        at_once : (m : ℕ) (z : List ℕ) → length xs ≡ 0 → m ≤ length rest → ((n < m) ⊎ (z ≡ [])) → take m rest ++ z ≡ 93 ∷ [] → ⊥
        at_once zero z none fits way e = ⊎_elim (λ (past : n < 0). omega arith) (λ f. omega (arith, ap length (sym f ∙ e))) way
        at_once (suc m) z none fits way e = opened.some none (there ∙ first rest fits e)
          where
            there : get_or s at 0 ≡ get_or rest 0 0
            there = let so : at ≡ at + 0 = omega arith in ap (λ i. get_or s i 0) so ∙ sym (get_or-drop at s 0 0) ∙ ap (λ t. get_or t 0 0) is-rest

            first : (t : List ℕ) → suc m ≤ length t → take (suc m) t ++ z ≡ 93 ∷ [] → get_or t 0 0 ≡ 93
            first [] fits e = absurd (omega arith)
            first (b ∷ t) fits e = same_head e

        -- no list begins with more than the stop leaves, and none ends there
        beyond_stop : (vs : List X) (m : ℕ) (z : List ℕ) → m ≤ length rest → ((n < m) ⊎ (z ≡ [])) → list_text text vs ≡ take (at + m) s ++ z → ⊥
        beyond_stop vs m z fits way e =
            ⊎_elim
            (λ (closed : (length xs ≡ 0) × (take m rest ++ z ≡ 93 ∷ [])). at_once m z closed.0 fits way closed.1)
            (λ (w : (y : X) × (ys : List X) × (take m rest ++ z ≡ text y ++ more_text text ys)). no_more w.0 w.1 m z fits way w.2)
            (open_then vs xs (take m rest ++ z) (e ∙ ap (λ t. t ++ z) (cut_at m) ∙ append_assoc (91 ∷ each_text text xs) (take m rest) z))

        stop_begins : Begins (list_text text) (take (at + n) s)
        stop_begins =
            let b = longest_of.begins in
            let y = b.value in
            record {
              value = xs ++ (y ∷ []);
              rest = b.rest ++ (93 ∷ []);
              is = open_on xs y [] ∙ ap (λ t. (91 ∷ each_text text xs) ++ (t ++ (93 ∷ []))) b.is
                  ∙ ap (λ t. (91 ∷ each_text text xs) ++ t) (append_assoc (take n rest) b.rest (93 ∷ []))
                  ∙ sym (append_assoc (91 ∷ each_text text xs) (take n rest) (b.rest ++ (93 ∷ [])))
                  ∙ ap (λ t. t ++ (b.rest ++ (93 ∷ []))) (sym (cut_at n));
            }

        fits_stop : at + n ≤ length s
        fits_stop = omega (arith, longest_of.within, rest_long, opened.within)

        none_whole : (vs : List X) (k : ℕ) → k ≤ length s → list_text text vs ≡ take k s → ⊥
        none_whole vs k fits e = ⊎_elim
            (λ (less : k < at).
            let over = take_over k (at + n) s (omega arith) fits_stop in
            let more = take (at + n - (k + 1)) (drop (k + 1) s) in
            list_free text separate stop_begins.value vs (get_or s k 0) (more ++ stop_begins.rest)
            (stop_begins.is ∙ ap (λ t. t ++ stop_begins.rest) (over ∙ ap (λ t. t ++ get_or s k 0 ∷ more) (sym e)) ∙ append_assoc (list_text text vs) (get_or s k 0 ∷ more) stop_begins.rest))
            (λ (from : at ≤ k).
            let so : at + (k - at) ≡ k = omega arith in
            beyond_stop vs (k - at) [] (omega (arith, rest_long)) (inr refl) (e ∙ ap (λ i. take i s) (sym so) ∙ sym (append-nil (take (at + (k - at)) s))))
            (cases_lt k at)

        pub list_stops : StopsAt (list_text text) s (at + n)
        list_stops = record {
          none = λ vs k e. none_whole vs (length (list_text text vs)) (whole_within (list_text text) s vs k e) (whole_is (list_text text) s vs k e);
          longest = record {
            within = fits_stop;
            begins = stop_begins;
            beyond = λ k past fits b.
                let so : at + (k - at) ≡ k = omega arith in
                beyond_stop b.value (k - at) b.rest (omega (arith, rest_long)) (inl (omega arith)) (b.is ∙ ap (λ i. take i s ++ b.rest) (sym so));
          };
        }

    -- ---- an element and its sign
    module _ (s : List ℕ) (xs : List X) (at : ℕ) (opened : Opened text s xs at) (x : X) (k : ℕ) where
      module _ (sign : Sign) (element : ElementIs text (drop at s) x sign k) where
        next_within : at + k ≤ length s
        next_within = omega (arith, element.within, length-drop at s, opened.within)

        next_is : take (at + k) s ≡ (91 ∷ each_text text xs) ++ (text x ++ (byte_of sign ∷ []))
        next_is = take-add at k s ∙ ap₂ (λ (a b : List ℕ). a ++ b) opened.is element.is

      pub element_opens : ElementIs text (drop at s) x Comma k → Opened text s (xs ++ (x ∷ [])) (at + k)
      element_opens element = record {
        within = next_within Comma element;
        is = next_is Comma element ∙ ap (λ t. 91 ∷ t) (sym (each_push xs x));
        some = λ z. absurd (omega (arith, length-append xs (x ∷ [])));
      }

      pub element_closes : ElementIs text (drop at s) x Bracket k → ReadsFront (list_text text) s (xs ++ (x ∷ [])) (at + k)
      element_closes element =
          free_reads (list_text text) (list_free text separate) s (xs ++ (x ∷ [])) (at + k) (next_within Bracket element) (next_is Bracket element ∙ sym (open_on xs x []))

  -- ---- the first byte, and an empty list
  module _ (s : List ℕ) where
    pub not_opened : (get_or s 0 0 ≡ 91 → ⊥) → StopsAt (list_text text) s 0
    not_opened other = search (rules, common_steps)

    pub just_opened : get_or s 0 0 ≡ 91 → (get_or s 1 0 ≡ 93 → ⊥) → Opened text s [] 1
    just_opened e other = grind (arith, common_steps)

    pub empty_read : Separate text → get_or s 0 0 ≡ 91 → get_or s 1 0 ≡ 93 → ReadsFront (list_text text) s [] 2
    empty_read separate e f = free_reads (list_text text) (list_free text separate) s [] 2 (search (rules, common_steps)) (search (rules, common_steps))
