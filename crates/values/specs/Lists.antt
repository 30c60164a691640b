-- Reading a list: its elements one after the other, each with the sign behind it.
use Rattle.std.specs.Prelude.{◌≡◌, ℕ, ◌≤◌, ◌⊎◌, List, [], ◌∷◌, ◌++◌, length, take, ◌≢◌, slice_index}
use Rattle.std.specs.Int.{IsInRange}
use Rattle.std.specs.List.{FoldsTo}
use Rattle.values.specs.Reading.{ReadsFront, StopsAt}
use Rattle.values.specs.Signs.{byte_of}
use Rattle.values.specs.Texts.{list_text}
use Rattle.values.specs.declared.sign.Sign.{Sign}

module _ {X : Type 0} (text : X → List ℕ) where
  -- s begins with the text of x and the sign behind it, and that is n bytes
  pub record ElementIs (s : List ℕ) (x : X) (sign : Sign) (n : ℕ) : Type 0 where
    pub within : n ≤ length s
    pub is : take n s ≡ text x ++ (byte_of sign ∷ [])

  -- s does not begin so, and n is the length of its longest beginning that begins the text of an element and a sign
  abbrev pub NoElement : List ℕ → ℕ → Type 0
  NoElement s n = StopsAt text s n ⊎ ((x : X) × ReadsFront text s x n × (slice_index s n ≢ 44) × (slice_index s n ≢ 93))

  -- elements with a comma behind each
  abbrev pub each_text : List X → List ℕ
  each_text [] = []
  each_text (x ∷ xs) = text x ++ 44 ∷ each_text xs

  -- the first n bytes of s open a list with the elements xs, and an element has to follow
  pub record Opened (s : List ℕ) (xs : List X) (n : ℕ) : Type 0 where
    pub within : n ≤ length s
    pub is : take n s ≡ 91 ∷ each_text xs
    pub some : length xs ≡ 0 → slice_index s n ≢ 93

  -- the first n bytes of s are an element, which was kept
  pub record ReadsElement {K : Type 0} (keeps : K → X → K → Type 0) (s : List ℕ) (n : ℕ) (before after : K) : Type 0 where
    pub element : X
    pub is : ReadsFront text s element n
    pub kept : keeps before element after

  -- the first n bytes of s are a list, whose elements were kept one after the other
  pub record ReadsList {K : Type 0} (keeps : K → X → K → Type 0) (s : List ℕ) (n : ℕ) (before after : K) : Type 0 where
    pub elements : List X
    pub is : ReadsFront (list_text text) s elements n
    pub kept : FoldsTo keeps before elements after

-- a text is never empty, never begins with a closing bracket, and goes on to another text only with a digit
pub record Separate {X : Type 0} (text : X → List ℕ) : Type 0 where
  pub some : (x : X) → text x ≡ [] → ⊥
  pub opens : (x : X) (r : List ℕ) → text x ≡ 93 ∷ r → ⊥
  pub goes_on : (x y : X) (c : ℕ) (r : List ℕ) → text x ≡ text y ++ c ∷ r → IsInRange 48 57 c
