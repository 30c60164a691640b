-- Names are compared exactly, and the innermost binding is found.
use Rattle.std.proofs.Common.{◌≡◌, ℕ, Bool, true, false, eqb, List, [], ◌∷◌, sym, refl, ap, ◌∙◌}
use mathlib.Core.Option.{Option, none, some}
use Rattle.std.proofs.lemmas.Bool.{both_ways, and_parts, eqb-true, eq-eqb}
use Rattle.tokens.specs.declared.kind.Name.{Name}
use Rattle.types.specs.Types.{Ty}
use Rattle.lang.specs.Expr.{Var, here, there}
use Rattle.lang.specs.Scope.{Binding, bound, kinds, Bound, inner, outer, same_bytes, same_name, Found, further, choose, lookup}

pub bytes_same : (xs : List ℕ) → same_bytes xs xs ≡ true
bytes_same [] = refl
bytes_same (x ∷ xs) = rw (eq-eqb x x refl) (bytes_same xs)

pub bytes_are : (xs ys : List ℕ) → same_bytes xs ys ≡ true → xs ≡ ys
bytes_are [] [] h = refl
bytes_are [] (y ∷ ys) h = cc
bytes_are (x ∷ xs) [] h = cc
bytes_are (x ∷ xs) (y ∷ ys) h =
    let e = and_parts (eqb x y) (same_bytes xs ys) h in
    let p : x ≡ y = eqb-true x y e.0 in
    let q : xs ≡ ys = bytes_are xs ys e.1 in
    cc

pub name_same : (n : Name) → same_name n n ≡ true
name_same n = bytes_same n.bytes

pub name_is : (n m : Name) → same_name n m ≡ true → n ≡ m
name_is n m h = ap (λ (b : List ℕ). record { bytes = b }) (bytes_are n.bytes m.bytes h)

pub name_not : (n m : Name) → same_name n m ≡ false → n ≡ m → ⊥
name_not n m h e = both_ways _ h (ap (same_name n) (sym e) ∙ name_same n)

pub name_apart : (n m : Name) → (n ≡ m → ⊥) → same_name n m ≡ false
name_apart n m h = by (same_name n m) refl
  where
    by : (t : Bool) → same_name n m ≡ t → t ≡ false
    by true e = absurd (h (name_is n m e))
    by false e = refl

-- what is found is the innermost
abbrev pub Right : (s : List Binding) → Name → Option (Found s) → Type 0
Right s n none = Unit {0}
Right s n (some x) = Bound s n x.0

pub lookup_right : (s : List Binding) (n : Name) → Right s n (lookup s n)
lookup_right [] n = tt
lookup_right (b ∷ s) n = by (same_name n b.name) refl (lookup s n) (lookup_right s n)
  where
    by : (t : Bool) → same_name n b.name ≡ t → (x : Option (Found s)) → Right s n x → Right (b ∷ s) n (choose b s t x)
    by true e x h = rw (name_is n b.name e) inner
    by false e none h = tt
    by false e (some x) h = outer (name_not n b.name e) h

-- and what is bound is found
pub lookup_finds : {s : List Binding} {n : Name} {t : Ty} → Bound s n t → (x : Var (kinds s) t) × (lookup s n ≡ some (t, x))
lookup_finds (inner {n} {t} {s}) = (here, ap (λ b. choose (bound n t) s b (lookup s n)) (name_same n))
lookup_finds (outer {n} {m} {t} {u} {s} d h) =
    let (x, e) = lookup_finds h in
    (there x, ap (λ b. choose (bound m u) s b (lookup s n)) (name_apart n m d) ∙ ap (further (bound m u) s) e)
