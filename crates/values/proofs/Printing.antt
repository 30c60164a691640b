-- Writing a list, element by element.
use Rattle.std.proofs.Common.{◌≡◌, ℕ, suc, ◌+◌, ◌-◌, ◌*◌, ◌<◌, ◌≤◌, List, [], ◌∷◌, ◌++◌, length, get_or, take, drop, set, sum_by, sym, refl, ap, ◌∙◌, append_assoc, arith, length-append, take-append-drop, rules}
use borrow.Rule.Slice.PartMut.{put_mid}
use Rattle.std.proofs.lemmas.Fmt.{length_signed_le}
use Rattle.std.proofs.lemmas.List.{take_all, take_more, take_more_set, drop_more, length-take-le}
use Rattle.std.proofs.lemmas.List.Sums.{sum_by-cons}
use Rattle.std.proofs.lemmas.Slice.{take-put_mid, overwrites}
use Rattle.monoid.specs.declared.int.Int.{Int}
use Rattle.values.specs.Lists.{each_text}
use Rattle.values.specs.Texts.{int_text, more_text, list_text}
use Rattle.values.proofs.Lists.{open_on, each_push}

module _ {X : Type 0} (text : X → List ℕ) where
  -- the elements before have been written, each with a comma behind it
  pub record Written (front : List X) (at : ℕ) (out : List ℕ) : Type 0 where
    pub within : at ≤ length out
    pub is : take at out ≡ 91 ∷ each_text text front

  pub begun : (xs : List X) (out : List ℕ) → length out ≡ length (list_text text xs) → Written [] 1 (set out 0 91)
  begun [] [] long = absurd (omega (arith, long))
  begun (x ∷ xs) [] long = absurd (omega (arith, long))
  begun xs (b ∷ out) long = record { within = omega arith; is = refl }

  -- the element x, with rest behind it, and its sign
  module _ (front rest : List X) (x : X) (at : ℕ) (out : List ℕ) (so_far : Written front at out) (room : length out ≡ length (list_text text (front ++ (x ∷ rest)))) where
    exact : length out ≡ at + length (text x) + length (more_text text rest)
    exact =
        omega (arith, room, ap length (open_on text front x rest), length-append (91 ∷ each_text text front) (text x ++ more_text text rest), length-append (text x) (more_text text rest), length-take-le at out so_far.within, ap length so_far.is)

    pub element_fits : at + length (text x) + 1 ≤ length out
    element_fits = omega (arith, exact, some rest)
      where
        some : (rest : List X) → 0 < length (more_text text rest)
        some [] = omega arith
        some (y ∷ rest) = omega arith

  -- where the list is others and then last, and those before i are written
  module _ (xs others : List X) (last : X) (all : xs ≡ others ++ (last ∷ [])) (i at : ℕ) (out : List ℕ) (so_far : Written (take i others) at out) (room : length out ≡ length (list_text text xs)) where
    module _ (x : X) (h : i < length others) (here : x ≡ get_or others i x) where
      split : xs ≡ take i others ++ (x ∷ (drop (i + 1) others ++ (last ∷ [])))
      split =
          all ∙ ap (λ zs. zs ++ (last ∷ [])) (sym (take-append-drop i others) ∙ ap (λ r. take i others ++ r) (drop_more others i x h ∙ ap (λ z. z ∷ drop (i + 1) others) (sym here)))
          ∙ append_assoc (take i others) (x ∷ drop (i + 1) others) (last ∷ [])

      pub next_fits : at + length (text x) + 1 ≤ length out
      next_fits = element_fits _ _ x at out so_far (room ∙ ap (λ ys. length (list_text text ys)) split)

      pub next_written : (end : ℕ) (out' : List ℕ) → end ≡ at + length (text x) + 1 → length out' ≡ length out → take end out' ≡ take at out ++ (text x ++ (44 ∷ [])) → Written (take (i + 1) others) end out'
      next_written end out' end-is same is = record {
        within = omega (arith, next_fits);
        is = is ∙ ap (λ t. t ++ (text x ++ (44 ∷ []))) so_far.is ∙ ap (λ t. 91 ∷ t) (sym (each_push text (take i others) x))
            ∙ ap (λ ys. 91 ∷ each_text text ys) (ap (λ y. take i others ++ (y ∷ [])) here ∙ sym (take_more others i x h));
      }

    module _ (end_of : length others ≤ i) where
      last-is : xs ≡ take i others ++ (last ∷ [])
      last-is = all ∙ ap (λ zs. zs ++ (last ∷ [])) (sym (take_all i others end_of))

      filled : length out ≡ at + length (text last) + 1
      filled = exact (take i others) [] last at out so_far (room ∙ ap (λ ys. length (list_text text ys)) last-is)

      pub last_fits : at + length (text last) + 1 ≤ length out
      last_fits = omega (arith, filled)

      pub all_written : (end : ℕ) (out' : List ℕ) → end ≡ at + length (text last) + 1 → length out' ≡ length out → take end out' ≡ take at out ++ (text last ++ (93 ∷ [])) → out' ≡ list_text text xs
      all_written end out' end-is same is =
          sym (take_all end out' (omega (arith, filled))) ∙ is ∙ ap (λ t. t ++ (text last ++ (93 ∷ []))) so_far.is
          ∙ sym (ap (list_text text) last-is ∙ open_on text (take i others) last [])

  -- ---- the length
  abbrev pub with_sign : X → ℕ
  with_sign x = length (text x) + 1

  more_length : (xs : List X) → length (more_text text xs) ≡ 1 + sum_by with_sign xs
  more_length [] = omega arith
  more_length (x ∷ xs) = ap (λ n. suc n) (length-append (text x) (more_text text xs)) ∙ omega (arith, more_length xs, sum_by-cons with_sign x xs)

  pub list_length : (xs : List X) → 0 < length xs → length (list_text text xs) ≡ 1 + sum_by with_sign xs
  list_length [] some = absurd (omega arith)
  list_length (x ∷ xs) some = more_length (x ∷ xs)

pub texts_few : (xs : List Int) → sum_by (with_sign int_text) xs ≤ length xs * 12
texts_few [] = omega arith
texts_few (x ∷ xs) = omega (arith, sum_by-cons (with_sign int_text) x xs, texts_few xs, length_signed_le 10 x.value (omega (arith, x.ok)) (omega (arith, x.ok)))

-- ---- a text and a sign in the output
pub element_bytes : (out t ys : List ℕ) (at n b : ℕ) → ys ≡ t → n ≡ length t → at + length t + 1 ≤ length out
    → take (at + n + 1) (set (put_mid at (at + n - at) out ys) (at + n) b) ≡ take at out ++ (t ++ (b ∷ []))
element_bytes out t ys at n b is long fits =
    let all : length ys ≡ n = ap length is ∙ sym long in
    let there : at + n < length (put_mid at (at + n - at) out ys) = search (rules, overwrites) in
    take_more_set (put_mid at (at + n - at) out ys) (at + n) b there
    ∙ ap (λ p. p ++ (b ∷ [])) (take-put_mid at (at + n - at) out ys (at + n) (omega arith) (omega arith))
    ∙ append_assoc (take at out) ys (b ∷ []) ∙ ap (λ u. take at out ++ (u ++ (b ∷ []))) is
