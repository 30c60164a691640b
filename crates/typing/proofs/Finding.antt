-- The innermost variable of a name.
use Rattle.std.proofs.Common.{◌≡◌, ℕ, zero, suc, ◌+◌, ◌-◌, ◌<◌, Bool, true, false, List, [], ◌∷◌, Decides, map, reverse, length, get_or, refl, sym, ap, ◌∙◌, subst, arith}
use Rattle.std.specs.Prelude.{Option, None, Some}
use mathlib.Core.Option.{none, some}
use denote.Ref.{Bor}
use denote.Param.Members.{Mut}
use Rattle.std.specs.declared.slice.Iter.{Iter}
use Rattle.std.specs.Fn.{Called}
use Rattle.std.specs.List.{AllWithin, HoldsAt, FoldsTo}
use Rattle.std.specs.Iterator.{FindsPositionBack, YieldsThen}
use Rattle.std.specs.Slice.Iter.{iter_rest, iter_steps_back}
use Rattle.std.specs.Option.{MatchOption, IsSomeAnd, option_copied, unwrap_or}
use Rattle.std.proofs.lemmas.Iterator.{YieldsList, IsFirst-from_position}
use Rattle.std.proofs.lemmas.Iterator.Consumers.{YieldsList-from_shown}
use Rattle.std.proofs.lemmas.List.{length-reverse, get_or-reverse}
use Rattle.std.proofs.lemmas.Bool.Decides.{same_from_decides}
use Rattle.tokens.specs.declared.kind.Name.{Name}
use Rattle.types.specs.Types.{Ty}
use Rattle.lang.specs.Scope.{kinds, same_name}
use Rattle.lang.proofs.Names.{name_same, name_is}
use Rattle.judging.specs.Judging.{find as find_in}
use Rattle.typing.specs.Codes.{type_at, binding_of}
use Rattle.typing.specs.declared.parts.Binding.{Binding as Entry}
use Rattle.typing.proofs.Lists.{reverse_push}

-- what `==` of two names says
pub names_agree : (r : Bool) (m n : Name) → Decides r (m ≡ n) → r ≡ same_name n m
names_agree r m n d =
    same_from_decides r (same_name n m) d (λ e. sym (name_is n m e), λ e. ap (same_name n) e ∙ name_same n)

-- what `rposition` says of the list that is given from the back: n - 1 - i is the first place that passes
pub first_from_back : {S A B F : Type 0} {steps : S → Option A → S → Type 0} {v : A → B} {g : Mut F (A × Unit {0}) Bool} {s : S} {all : List B} (u : S) (f : F) (n : ℕ) (r : Option ℕ) (Yes No : B → Type 0) → FindsPositionBack steps g s f n r u → YieldsList steps v s all → ((x : A) (q : F) → Called g f (x, tt) true q → Yes (v x)) → ((x : A) (q : F) → Called g f (x, tt) false q → (q ≡ f) × No (v x)) → MatchOption r (AllWithin No all 0 (length all)) (λ i. (i < n) × ((n - 1 - i < length all) × HoldsAt Yes all (n - 1 - i) × AllWithin No all 0 (n - 1 - i)))
first_from_back {S} {A} {B} {F} {steps} {v} {g} {s} {all} u f n r Yes No d e hit miss = by r d.0 d.1 d.2 d.3 d.4 d.5
  where
    by : (r : Option ℕ) (xs : List A) (o : Option A) (j : F) → YieldsThen steps s xs o u → FoldsTo (λ p x q. Called g p (x, tt) false q) f xs j → MatchOption o (r ≡ None) (λ x. IsSomeAnd r (λ i. i + 1 + length xs ≡ n) × ((h : F) × Called g j (x, tt) true h)) → MatchOption r (AllWithin No all 0 (length all)) (λ i. (i < n) × ((n - 1 - i < length all) × HoldsAt Yes all (n - 1 - i) × AllWithin No all 0 (n - 1 - i)))
    by r xs None j y c m = subst (λ r. MatchOption r (AllWithin No all 0 (length all)) (λ i. (i < n) × ((n - 1 - i < length all) × HoldsAt Yes all (n - 1 - i) × AllWithin No all 0 (n - 1 - i)))) (sym m) (IsFirst-from_position u f None Yes No (xs, None, j, y, c, refl) e hit miss)
    by None xs (Some x) j y c m = absurd m.0
    by (Some i) xs (Some x) j y c m =
        let k : length xs ≡ n - 1 - i = omega (arith, m.0) in
        (omega (arith, m.0), subst (λ k. (k < length all) × HoldsAt Yes all k × AllWithin No all 0 k) k (IsFirst-from_position u f (Some (length xs)) Yes No (xs, Some x, j, y, c, (refl, m.1)) e hit miss))

-- a slice from its back
pub from_back : {A : Type 0} {s : Iter A} (xs : List A) → iter_rest s ≡ xs → YieldsList iter_steps_back (λ y. y.now) s (reverse xs)
from_back {A} {s} xs e =
    subst (λ k. YieldsList iter_steps_back (λ y. y.now) s (reverse k)) e (YieldsList-from_shown iter_steps_back (λ y. y.now) (λ u. reverse (iter_rest u)) (λ u t p. length-reverse _ ∙ p.0) (λ u x t p. ap reverse p ∙ reverse_push (iter_rest t) x.now) s)

module _ (ts : List Ty) (name : Name) where
  abbrev pub Named : Entry → Type 0
  Named b = true ≡ same_name name b.name

  abbrev pub Other : Entry → Type 0
  Other b = false ≡ same_name name b.name

  pub find_none : (sc : List Entry) → AllWithin Other sc 0 (length sc) → find_in (map (binding_of ts) sc) name ≡ none
  find_none [] h = refl
  find_none (b ∷ sc) h =
      rw (← h 0 b (omega arith) (omega arith), find_none sc (λ j d a l. h (suc j) d (omega arith) (omega arith))) refl

  find_at : (sc : List Entry) (k : ℕ) (d : Entry) → k < length sc → HoldsAt Named sc k → AllWithin Other sc 0 k → find_in (map (binding_of ts) sc) name ≡ some (k, type_at ts (get_or sc k d).code)
  find_at [] k d l e h = absurd (omega arith)
  find_at (b ∷ sc) zero d l e h = rw (← e b) refl
  find_at (b ∷ sc) (suc k) d l e h =
      rw (← h 0 b (omega arith) (omega arith), find_at sc k d (omega arith) (λ x. e x) (λ j x a m. h (suc j) x (omega arith) (omega arith))) refl

  -- the variable at the index i, of which no other stands further in
  pub found_at : (sc : List Entry) (n i k : ℕ) (b : Entry) → n ≡ length sc → i < n → k ≡ n - 1 - i → b ≡ get_or sc i b → (n - 1 - i < length (reverse sc)) × HoldsAt Named (reverse sc) (n - 1 - i) × AllWithin Other (reverse sc) 0 (n - 1 - i) → find_in (map (binding_of ts) (reverse sc)) name ≡ some (k, type_at ts b.code)
  found_at sc n i k b en l ek at h =
      let m : n - 1 - i < length sc = omega arith in
      let z : length sc - 1 - (n - 1 - i) ≡ i = omega arith in
      let here : get_or (reverse sc) (n - 1 - i) b ≡ b = get_or-reverse sc (n - 1 - i) b m ∙ ap (λ j. get_or sc j b) z ∙ sym at in
      let found = rw here at (find_at (reverse sc) (n - 1 - i) b h.0 h.1 h.2) in
      rw ek found

-- the types of a scope's variables
pub kinds_are : (ts : List Ty) (sc : List Entry) → kinds (map (binding_of ts) sc) ≡ map (λ b. type_at ts b.code) sc
kinds_are ts [] = refl
kinds_are ts (b ∷ sc) = ap (λ l. type_at ts b.code ∷ l) (kinds_are ts sc)

pub map_or_is : {X : Type 0} (f : X → ℕ) (o : Option (Bor X)) (r : ℕ) (d : X) → MatchOption o (r ≡ f d) (λ x. r ≡ f x.now) → r ≡ f (unwrap_or (option_copied o) d)
map_or_is f None r d h = h
map_or_is f (Some x) r d h = h
