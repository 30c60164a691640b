-- Lists in brackets.
use mathlib.Core.Path as path
use Rattle.std.proofs.Common.{◌≡◌, ℕ, zero, suc, ◌-◌, ◌<◌, ◌≤◌, Bool, true, false, cond, leb, ◌⊎◌, List, [], ◌∷◌, map, reverse, length, get_or, take, drop, sym, ap, ◌∙◌, subst, inl, inr, arith}
use mathlib.Core.Option.{Option, none, some}
use Rattle.std.specs.declared.result.Result.TheVariants.{Ok, Err}
use Rattle.std.proofs.lemmas.List.{reverse-reverse, length-reverse, take-map, take_all, get_or-map, length-map}
use Rattle.std.proofs.lemmas.Bool.{cases_lt}
use Rattle.types.specs.Types.{Ty, list, parts, same}
use Rattle.types.proofs.Same.{same_self}
use Rattle.lang.specs.Expr.{copies, bracket}
use Rattle.lang.specs.Rules.{gives, large, limit, list_rule, list_of, all_alike, one_more, Alike, alike}
use Rattle.typing.specs.Codes.{type_at}
use Rattle.typing.specs.Elements.{OneType}
use Rattle.typing.specs.Holding.{outcome}
use Rattle.typing.specs.declared.misfit.Misfit.TheVariants.{Unfit, TooLarge}
use Rattle.typing.proofs.Lists.{map-reverse, reverse-take}

-- one that differs
not_all : (t : Ty) (ts : List Ty) (i : ℕ) → i < length ts → same (get_or ts i t) t ≡ none → all_alike t ts ≡ none
not_all t [] i l h = absurd (omega arith)
not_all t (u ∷ ts) zero l h = ap (λ q. one_more q (all_alike t ts)) h
not_all t (u ∷ ts) (suc i) l h = by (same u t) (not_all t ts i (omega arith) h)
  where
    by : (q : Option (Id Ty u t)) → all_alike t ts ≡ none → one_more q (all_alike t ts) ≡ none
    by none e = path.refl
    by (some q) e = ap (one_more (some q)) e

-- all alike
one_longer : {t : Ty} {ts : List Ty} (a : Alike t ts) → (b : Alike t (t ∷ ts)) × (one_more (some refl) (some a) ≡ some b)
one_longer (alike k) = (alike (suc k), path.refl)

all_same : (t : Ty) (ts : List Ty) → ((i : ℕ) → i < length ts → get_or ts i t ≡ t) → (a : Alike t ts) × (all_alike t ts ≡ some a)
all_same t [] h = (alike zero, path.refl)
all_same t (u ∷ ts) h =
    let (a, e) = all_same t ts (λ i l. h (suc i) (omega arith)) in
    let (b, f) = one_longer a in
    let u_is : u ≡ t = h 0 (omega arith) in
    rw u_is (b, ap (λ q. one_more q (all_alike t ts)) (same_self t) ∙ ap (one_more (some refl)) e ∙ f)

length-copies : (k : ℕ) (t : Ty) → length (copies k t) ≡ k
length-copies zero t = path.refl
length-copies (suc k) t = ap suc (length-copies k t)

bracketed : (b c : Bool) (k : ℕ) (t : Ty) → outcome (cond b (cond c (gives (list t) (bracket k t)) large) large) ≡ cond b (cond c (Ok (list t)) (Err TooLarge)) (Err TooLarge)
bracketed true true k t = path.refl
bracketed true false k t = path.refl
bracketed false c k t = path.refl

alike_is : {t : Ty} {ts : List Ty} (a : Alike t ts) → outcome (list_of (some a)) ≡ cond (leb (suc (length ts)) limit) (cond (leb (parts (list t)) limit) (Ok (list t)) (Err TooLarge)) (Err TooLarge)
alike_is {t} (alike k) =
    rw (length-copies k t) (bracketed (leb (suc k) limit) (leb (parts (list t)) limit) k t)

-- the operands are the last entries of the stack
pub operands_are : {X Y : Type 0} (f : X → Y) (xs : List X) (n base : ℕ) → base ≡ length xs - n → reverse (take n (map f (reverse xs))) ≡ map f (drop base xs)
operands_are f xs n base e =
    ap reverse (take-map f n (reverse xs)) ∙ sym (map-reverse f (take n (reverse xs))) ∙ ap (map f) (ap reverse (shorter (cases_lt (length xs) n)) ∙ reverse-take (reverse xs) base (length xs - base) (omega (arith, length-reverse xs)) ∙ ap (drop base) (reverse-reverse xs))
  where
    shorter : (length xs < n) ⊎ (n ≤ length xs) → take n (reverse xs) ≡ take (length xs - base) (reverse xs)
    shorter (inl h) = take_all n (reverse xs) (omega (arith, length-reverse xs)) ∙ sym (take_all (length xs - base) (reverse xs) (omega (arith, length-reverse xs)))
    shorter (inr h) = let m : n ≡ length xs - base = omega arith in ap (λ k. take k (reverse xs)) m

-- what a list in brackets gives, by the codes of its elements
module _ (ts : List Ty) (c : ℕ) (cs : List ℕ) where
  abbrev t : Ty
  t = type_at ts c

  abbrev us : List Ty
  us = map (type_at ts) cs

  at_code : (i : ℕ) → i < length cs → get_or us i t ≡ type_at ts (get_or cs i 0)
  at_code i l = get_or-map (type_at ts) cs i 0 t l

  brackets : (r : Bool) → OneType r ts cs c → outcome (list_rule (t ∷ us)) ≡ cond r (cond (leb (suc (length cs)) limit) (cond (leb (parts (list t)) limit) (Ok (list t)) (Err TooLarge)) (Err TooLarge)) (Err Unfit)
  brackets false h =
      let i = h.0 in
      let l : i < length us = omega (arith, h.1.0, length-map cs (type_at ts)) in
      ap (λ o. outcome (list_of o)) (not_all t us i l (subst (λ u. same u t ≡ none) (sym (at_code i h.1.0)) h.1.1))
  brackets true h =
      let (a, e) = all_same t us (λ i l. let m : i < length cs = omega (arith, l, length-map cs (type_at ts)) in at_code i m ∙ h i m) in
      ap (λ o. outcome (list_of o)) e ∙ alike_is a ∙ ap (λ n. cond (leb (suc n) limit) (cond (leb (parts (list t)) limit) (Ok (list t)) (Err TooLarge)) (Err TooLarge)) (length-map cs (type_at ts))

  pub bracketed_are : (xs : List ℕ) → xs ≡ c ∷ cs → (r : Bool) → OneType r ts cs c → outcome (list_rule (map (type_at ts) xs)) ≡ cond r (cond (leb (length xs) limit) (cond (leb (parts (list t)) limit) (Ok (list t)) (Err TooLarge)) (Err TooLarge)) (Err Unfit)
  bracketed_are xs e r h = rw e (brackets r h)

pub none_bracketed : (ts : List Ty) (xs : List ℕ) → length xs ≡ 0 → outcome (list_rule (map (type_at ts) xs)) ≡ Err Unfit
none_bracketed ts [] h = path.refl
none_bracketed ts (x ∷ xs) h = absurd (omega arith)
