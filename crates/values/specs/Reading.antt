-- What reading a text answers: a value, or how much of the text could still have become one.
use Rattle.std.specs.Prelude.{◌≡◌, ℕ, ◌<◌, ◌≤◌, List, ◌++◌, length, take, ◌≢◌}

module _ {X : Type 0} (text : X → List ℕ) where
  -- p begins the text of some value
  pub record Begins (p : List ℕ) : Type 0 where
    pub value : X
    pub rest : List ℕ
    pub is : text value ≡ p ++ rest

  -- n is the length of the longest beginning of s that also begins the text of some value
  pub record Longest (s : List ℕ) (n : ℕ) : Type 0 where
    pub within : n ≤ length s
    pub begins : Begins (take n s)
    pub beyond : (k : ℕ) → n < k → k ≤ length s → Begins (take k s) → ⊥

  -- the first n bytes of s are the text of x, and no more of s begins the text of a value
  pub record ReadsFront (s : List ℕ) (x : X) (n : ℕ) : Type 0 where
    pub is : take n s ≡ text x
    pub longest : Longest s n

  -- no beginning of s is the text of a value, and n is the length of the longest that begins one
  pub record StopsAt (s : List ℕ) (n : ℕ) : Type 0 where
    pub none : (x : X) (k : ℕ) → take k s ≢ text x
    pub longest : Longest s n

  -- s is not the text of a value, and n is the length of its longest beginning that begins one
  pub record NoText (s : List ℕ) (n : ℕ) : Type 0 where
    pub none : (x : X) → s ≢ text x
    pub longest : Longest s n
