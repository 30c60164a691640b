-- The texts of values of each type can be told apart.
use Rattle.std.proofs.Common.{◌≡◌, ℕ, ◌+◌, ◌≤◌, Bool, true, false, List, [], ◌∷◌, ◌++◌, length, sym, refl, ap, ◌∙◌, ap₂, append_assoc, append-nil, arith, length-append}
use Rattle.monoid.specs.declared.int.Int.{Int}
use Rattle.monoid.specs.Ints.{int_zero}
use Rattle.types.specs.Types.{Ty, int, bool, pair, list}
use Rattle.lang.specs.Values.{Val, size, sum_by}
use Rattle.lang.specs.Layout.{cells, flat_map}
use Rattle.values.specs.Texts.{int_text, more_text, list_text}
use Rattle.texts.specs.Texts.{bool_text, pair_text, value_text}
use Rattle.values.specs.Lists.{Separate, each_text}
use Rattle.values.proofs.IntTexts.{int_separate, same_text_int}
use Rattle.values.proofs.Separate.{PrefixFree, Injective, NoDigit, split, list_separate, list_same, same_head, same_tail}

-- ---- bools
bool_cut : (x y : Bool) (r : List ℕ) → bool_text x ≡ bool_text y ++ r → x ≡ y
bool_cut true true r e = refl
bool_cut true false r e = absurd (let z : ◌≡◌ {A = ℕ} 116 102 = same_head e in omega (arith, z))
bool_cut false true r e = absurd (let z : ◌≡◌ {A = ℕ} 102 116 = same_head e in omega (arith, z))
bool_cut false false r e = refl

pub bool_free : PrefixFree bool_text
bool_free x y c r e = omega (arith, ap length e, length-append (bool_text y) (c ∷ r), ap (λ b. length (bool_text b)) (bool_cut x y (c ∷ r) e))

pub bool_separate : Separate bool_text
bool_separate = record { some = λ x. some x; opens = λ x r. opens x r; goes_on = λ x y c r e. absurd (bool_free x y c r e) }
  where
    some : (x : Bool) → bool_text x ≡ [] → ⊥
    some true e = cc
    some false e = cc

    opens : (x : Bool) (r : List ℕ) → bool_text x ≡ 93 ∷ r → ⊥
    opens true r e = let z : ◌≡◌ {A = ℕ} 116 93 = same_head e in omega (arith, z)
    opens false r e = let z : ◌≡◌ {A = ℕ} 102 93 = same_head e in omega (arith, z)

bool_same : Injective bool_text
bool_same true true e = refl
bool_same true false e = cc
bool_same false true e = cc
bool_same false false e = refl

-- ---- pairs
pub comma : NoDigit 44
comma d = omega (arith, d.0)

pub bracket : NoDigit 41
bracket d = omega (arith, d.0)

module _ {X Y : Type 0} (f : X → List ℕ) (g : Y → List ℕ) (p : Separate f) (q : Separate g) where
  pair_cut : (u v : X × Y) (r : List ℕ) → pair_text f g u ≡ pair_text f g v ++ r → (f u.0 ≡ f v.0) × (g u.1 ≡ g v.1) × (r ≡ [])
  pair_cut u v r e =
      let first = split f p u.0 v.0 44 44 (g u.1 ++ (41 ∷ [])) ((g v.1 ++ (41 ∷ [])) ++ r) comma comma
      (same_tail e ∙ append_assoc (f v.0) (44 ∷ (g v.1 ++ (41 ∷ []))) r) in
      let second = split g q u.1 v.1 41 41 [] r bracket bracket (same_tail first.1 ∙ append_assoc (g v.1) (41 ∷ []) r) in
      (first.0, second.0, sym (same_tail second.1))

  pub pair_free : PrefixFree (pair_text f g)
  pair_free u v c r e = omega (arith, ap length (pair_cut u v (c ∷ r) e).2)

  pair_separate : Separate (pair_text f g)
  pair_separate = record {
    some = λ u e. cc;
    opens = λ u r e. cc;
    goes_on = λ u v c r e. absurd (pair_free u v c r e);
  }

  pair_same : Injective f → Injective g → Injective (pair_text f g)
  pair_same i j u v e =
      let parts = pair_cut u v [] (e ∙ sym (append-nil (pair_text f g v))) in
      ap₂ (λ (x : X) (y : Y). (x, y)) (i u.0 v.0 parts.0) (j u.1 v.1 parts.1)

-- ---- every type
pub value_separate : (t : Ty) → Separate (value_text t)
value_separate int = int_separate
value_separate bool = bool_separate
value_separate (pair a b) = pair_separate (value_text a) (value_text b) (value_separate a) (value_separate b)
value_separate (list a) = list_separate (value_text a) (value_separate a)

pub value_same : (t : Ty) → Injective (value_text t)
value_same int = same_text_int
value_same bool = bool_same
value_same (pair a b) = pair_same (value_text a) (value_text b) (value_separate a) (value_separate b) (value_same a) (value_same b)
value_same (list a) = list_same (value_text a) (value_separate a) (value_same a)

-- ---- sizes
text_long : {X : Type 0} (text : X → List ℕ) → Separate text → (x : X) → 1 ≤ length (text x)
text_long text p x = by (text x) refl
  where
    by : (ts : List ℕ) → text x ≡ ts → 1 ≤ length ts
    by [] e = absurd (p.some x e)
    by (t ∷ ts) e = omega arith

more_short : {X : Type 0} (text : X → List ℕ) (big : X → ℕ) → ((x : X) → big x ≤ length (text x)) → (xs : List X) → sum_by big xs + 1 ≤ length (more_text text xs)
more_short text big short [] = omega arith
more_short text big short (x ∷ xs) = omega (arith, short x, more_short text big short xs, length-append (text x) (more_text text xs))

list_short : {X : Type 0} (text : X → List ℕ) (big : X → ℕ) → ((x : X) → big x ≤ length (text x)) → (xs : List X) → 1 + sum_by big xs ≤ length (list_text text xs)
list_short text big short [] = omega arith
list_short text big short (x ∷ xs) = omega (arith, short x, more_short text big short xs, length-append (text x) (more_text text xs))

pub each_short : {X : Type 0} (text : X → List ℕ) (big : X → ℕ) → ((x : X) → big x ≤ length (text x)) → (xs : List X) → sum_by big xs ≤ length (each_text text xs)
each_short text big short [] = omega arith
each_short text big short (x ∷ xs) = omega (arith, short x, each_short text big short xs, length-append (text x) (44 ∷ each_text text xs))

-- a value has no more cells than bytes
pub size_short : (t : Ty) (v : Val t) → size t v ≤ length (value_text t v)
size_short int v = text_long int_text int_separate v
size_short bool v = text_long bool_text bool_separate v
size_short (pair a b) v =
    omega (
      arith,
      size_short a v.0,
      size_short b v.1,
      length-append (value_text a v.0) (44 ∷ (value_text b v.1 ++ (41 ∷ []))),
      length-append
          (value_text b v.1) (41 ∷ []),
    )
size_short (list a) v = list_short (value_text a) (size a) (size_short a) v

pub size_some : (t : Ty) (v : Val t) → 1 ≤ size t v
size_some int v = omega arith
size_some bool v = omega arith
size_some (pair a b) v = omega (arith, size_some a v.0, size_some b v.1)
size_some (list a) v = omega arith

each_size : {X : Type 0} (row : X → List Int) (big : X → ℕ) → ((x : X) → length (row x) ≡ big x) → (xs : List X) → length (flat_map row xs) ≡ sum_by big xs
each_size row big is [] = refl
each_size row big is (x ∷ xs) = length-append (row x) (flat_map row xs) ∙ ap₂ (λ (m n : ℕ). m + n) (is x) (each_size row big is xs)

-- a value has as many cells as its size
pub cells-size : (t : Ty) (v : Val t) → length (cells t v) ≡ size t v
cells-size int v = refl
cells-size bool v = refl
cells-size (pair a b) v = length-append (cells a v.0) (cells b v.1) ∙ ap₂ (λ (m n : ℕ). m + n) (cells-size a v.0) (cells-size b v.1)
cells-size (list a) v = omega (arith, each_size (cells a) (size a) (cells-size a) v)

-- each type has a value
pub some_value : (t : Ty) → Val t
some_value int = int_zero
some_value bool = false
some_value (pair a b) = (some_value a, some_value b)
some_value (list a) = []
