-- What it is for a word to stand for a value.
use Rattle.std.specs.Prelude.{◌≡◌, ℕ, suc, ◌+◌, ◌^◌, ◌<◌, List, [], ◌∷◌, length}
use Rattle.std.proofs.Math.Option.{some}
use mir.Val.{hbits}
use Rattle.monoid.specs.declared.int.Int.{Int}
use Rattle.monoid.specs.Ints.{width}
use Rattle.types.specs.Types.{Ty, int, bool, pair, list}
use Rattle.lang.specs.Values.{Val, sum_by, size}
use Rattle.lang.specs.Layout.{flag, count}
use Rattle.rules.specs.Lists.{nth}
use Rattle.rules.specs.Environment.{Env}

-- words have the numbers below it
abbrev pub limit : ℕ
limit = 2 ^ hbits width

-- the words, in order, at the place and after it
abbrev pub Row : List Int → ℕ → List Int → Type 0
Row h p [] = Unit {0}
Row h p (w ∷ ws) = (nth h p ≡ some w) × Row h (suc p) ws

-- one for each, in order
abbrev pub Each : {W X : Type 0} → (W → X → Type 0) → List W → List X → Type 0
Each R [] [] = Unit {0}
Each R [] (x ∷ xs) = ⊥
Each R (w ∷ ws) [] = ⊥
Each R (w ∷ ws) (x ∷ xs) = R w x × Each R ws xs

-- a pair's three cells: one less than its size, and a word for each half
pub record PairAt {X Y : Type 0} (h : List Int) (R : Int → X → Type 0) (S : Int → Y → Type 0) (n : ℕ) (w : Int) (x : X) (y : Y) : Type 0 where
  pub p : ℕ
  pub k : ℕ
  pub u : Int
  pub v : Int
  pub is : w ≡ count p
  pub there : p < limit
  pub few : k < limit
  pub sized : n ≡ suc k
  pub row : Row h p (count k ∷ u ∷ v ∷ [])
  pub left : R u x
  pub right : S v y

-- a list's cells: one less than its size, its length, and a word for each element
pub record ListAt {X : Type 0} (h : List Int) (R : Int → X → Type 0) (n : ℕ) (w : Int) (xs : List X) : Type 0 where
  pub p : ℕ
  pub ws : List Int
  pub is : w ≡ count p
  pub there : p < limit
  pub few : n < limit
  pub row : Row h p (count n ∷ count (length xs) ∷ ws)
  pub each : Each R ws xs

abbrev pub Holds : List Int → (t : Ty) → Int → Val t → Type 0
Holds h int w v = w ≡ v
Holds h bool w v = w ≡ flag v
Holds h (pair a b) w v = PairAt h (Holds h a) (Holds h b) (size a v.0 + size b v.1) w v.0 v.1
Holds h (list a) w v = ListAt h (Holds h a) (sum_by (size a) v) w v

-- the word stands for the value
pub record Word (h : List Int) (t : Ty) (w : Int) (v : Val t) : Type 0 where
  pub holds : Holds h t w v

-- a word for each variable, the innermost first
pub data Kept (h : List Int) : (Γ : List Ty) → List Int → Env Γ → Type 0 where
  bare : Kept h [] [] tt
  with : {Γ : List Ty} {e : List Int} {ρ : Env Γ} (t : Ty) (w : Int) (v : Val t) → Word h t w v → Kept h Γ e ρ → Kept h (t ∷ Γ) (w ∷ e) (v, ρ)
