-- What every sign keeps to.
use Rattle.std.proofs.Common.{◌≡◌, ℕ, ◌+◌, ◌<◌, ◌≤◌, Bool, true, false, cond, ◌&&◌, eqb, ◌⊎◌, List, [], ◌∷◌, length, get_or, Some, None, Option, refl, ap, subst, inl, inr, ⊎_elim, arith, rules}
use Rattle.std.proofs.lemmas.List.{get_or_past}
use Rattle.std.proofs.lemmas.Bool.{and_parts, cases_lt, cond_both, eqb-true}
use Rattle.tokens.specs.declared.kind.Kind.{Kind}
use Rattle.tokens.specs.declared.kind.Kind.TheVariants.{Same}
use Rattle.tokens.specs.Kinds.{code, is_stop}
use Rattle.tokens.specs.Signs.{kind_of, sign_bytes, sign_kinds, sign_of, sign_length}
use Rattle.tokens.proofs.Tables.{Each}

-- a sign, if there is one, is no stop, and has two bytes only before a `=`
record Good (n : ℕ) (o : Option Kind) : Type 0 where
  is : (k : Kind) → o ≡ Some k → (is_stop k ≡ false) × (sign_length k ≡ 2 → n ≡ 61)

nothing : {n : ℕ} → Good n None
nothing = record { is = λ k e. let z : ◌≡◌ {A = ℕ} 0 1 = cc in absurd (omega arith) }

abbrev Short : Kind → Type 0
Short k = (is_stop k ≡ false) × (sign_length k ≡ 1)

one : {n : ℕ} (k : Kind) → Short k → Good n (Some k)
one k h = record { is = λ k' e. let same : k ≡ k' = cc in (subst (λ x. is_stop x ≡ false) same h.0, λ two. absurd (omega (arith, ap sign_length same, h.1))) }

both : (b n : ℕ) → (eqb b 61 && eqb n 61) ≡ true → Good n (Some Same)
both b n h = record { is = λ k e. let is : Same ≡ k = cc in (subst (λ x. is_stop x ≡ false) is refl, λ _. eqb-true n 61 (and_parts _ _ h).1) }

short : Each Short sign_kinds
short = search rules

of_table : (n b : ℕ) (cs : List ℕ) (ks : List Kind) → Each Short ks → Good n (kind_of cs ks b)
of_table n b [] ks h = nothing
of_table n b (c ∷ cs) [] h = nothing
of_table n b (c ∷ cs) (k ∷ ks) h = cond_both (eqb b c) (Some k) (kind_of cs ks b) (Good n) (λ _. one k h.0) (λ _. of_table n b cs ks h.1)

good : (b n : ℕ) → Good n (sign_of b n)
good b n = cond_both (eqb b 61 && eqb n 61) (Some Same) (kind_of sign_bytes sign_kinds b) (Good n) (both b n) (λ _. of_table n b sign_bytes sign_kinds short)

-- no sign is a stop
pub sign-plain : (b n : ℕ) (k : Kind) → sign_of b n ≡ Some k → is_stop k ≡ false
sign-plain b n k e = ((good b n).is k e).0

lengths : (t : Bool) → ◌≡◌ {A = ℕ} (cond t 2 1) 1 ⊎ ◌≡◌ {A = ℕ} (cond t 2 1) 2
lengths true = inr refl
lengths false = inl refl

pub sign-length : (k : Kind) → (sign_length k ≡ 1) ⊎ (sign_length k ≡ 2)
sign-length k = lengths (eqb (code k) (code Same))

-- where a byte that is not 0 stands, the text has not ended
inside : (bs : List ℕ) (j x : ℕ) → get_or bs j 0 ≡ x → 0 < x → j < length bs
inside bs j x e h = ⊎_elim (λ lt. lt) (λ le. absurd (omega (arith, get_or_past bs j 0 le))) (cases_lt j (length bs))

-- a sign that begins in the text ends in it
pub sign-within : (bs : List ℕ) (b i : ℕ) (k : Kind) → i < length bs → sign_of b (get_or bs (i + 1) 0) ≡ Some k → i + sign_length k ≤ length bs
sign-within bs b i k lt e =
    ⊎_elim (λ one. omega arith) (λ two. let in-it : i + 1 < length bs = inside bs (i + 1) 61 (((good b _).is k e).1 two) (omega arith) in omega arith) (sign-length k)
