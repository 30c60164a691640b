-- A kind of token by its number.
use Rattle.std.proofs.Common.{◌≡◌, ℕ, ◌-◌, Bool, true, false, eqb, ltb, List, [], ◌∷◌, get_or, MatchBool, sym, refl, ap, ◌∙◌, subst, eqb-true}
use borrow.Author.Tests.{eqb-false}
use Rattle.tokens.specs.declared.kind.Kind.{Kind}
use Rattle.tokens.specs.declared.kind.Kind.TheVariants as kind
use Rattle.tokens.specs.Kinds.{code}
use Rattle.grammar.proofs.Follow.{clash}

-- the kinds from 7 on, in order
plains : List Kind
plains = Kind.Main ∷ Kind.Int ∷ Kind.Bool ∷ Kind.Let ∷ Kind.In ∷ Kind.If ∷ Kind.Then ∷ Kind.Else ∷ Kind.True ∷ Kind.False ∷ Kind.Empty ∷ Kind.Fst ∷ Kind.Snd ∷ Kind.Len ∷ Kind.Range ∷ Kind.Flat ∷ Kind.Part ∷ Kind.Scan ∷ Kind.Reduce ∷ Kind.Sum ∷ Kind.Max ∷ Kind.Or ∷ Kind.Lin ∷ Kind.House ∷ Kind.Open ∷ Kind.Close ∷ Kind.SquareOpen ∷ Kind.SquareClose ∷ Kind.CurlyOpen ∷ Kind.CurlyClose ∷ Kind.Comma ∷ Kind.Colon ∷ Kind.Bar ∷ Kind.Equal ∷ Kind.Same ∷ Kind.Less ∷ Kind.Plus ∷ Kind.Minus ∷ Kind.Times ∷ Kind.Divide ∷ Kind.Remainder ∷ []

decode : ℕ → Kind
decode n = get_or plains (n - 7) Kind.End

decoded : (k : Kind) → ltb 6 (code k) ≡ true → decode (code k) ≡ k
unfolding plains decode
decoded kind.End h = absurd (clash (sym h))
decoded kind.NoToken h = absurd (clash (sym h))
decoded kind.TooLarge h = absurd (clash (sym h))
decoded kind.TooLong h = absurd (clash (sym h))
decoded kind.OverLimit h = absurd (clash (sym h))
decoded (kind.Name _) h = absurd (clash (sym h))
decoded (kind.Number _) h = absurd (clash (sym h))
decoded kind.Main h = refl
decoded kind.Int h = refl
decoded kind.Bool h = refl
decoded kind.Let h = refl
decoded kind.In h = refl
decoded kind.If h = refl
decoded kind.Then h = refl
decoded kind.Else h = refl
decoded kind.True h = refl
decoded kind.False h = refl
decoded kind.Empty h = refl
decoded kind.Fst h = refl
decoded kind.Snd h = refl
decoded kind.Len h = refl
decoded kind.Range h = refl
decoded kind.Flat h = refl
decoded kind.Part h = refl
decoded kind.Scan h = refl
decoded kind.Reduce h = refl
decoded kind.Sum h = refl
decoded kind.Max h = refl
decoded kind.Or h = refl
decoded kind.Lin h = refl
decoded kind.House h = refl
decoded kind.Open h = refl
decoded kind.Close h = refl
decoded kind.SquareOpen h = refl
decoded kind.SquareClose h = refl
decoded kind.CurlyOpen h = refl
decoded kind.CurlyClose h = refl
decoded kind.Comma h = refl
decoded kind.Colon h = refl
decoded kind.Bar h = refl
decoded kind.Equal h = refl
decoded kind.Same h = refl
decoded kind.Less h = refl
decoded kind.Plus h = refl
decoded kind.Minus h = refl
decoded kind.Times h = refl
decoded kind.Divide h = refl
decoded kind.Remainder h = refl

-- kinds with one number from 7 on are one
pub same_kind : (k l : Kind) → ltb 6 (code l) ≡ true → code k ≡ code l → k ≡ l
same_kind k l h e = sym (decoded k (subst (λ n. ltb 6 n ≡ true) (sym e) h)) ∙ ap decode e ∙ decoded l h

-- what a comparison of two numbers tells of the kinds
pub told : (k l : Kind) (m n : ℕ) → ltb 6 (code l) ≡ true → m ≡ code k → n ≡ code l → MatchBool (eqb m n) (k ≡ l) (k ≡ l → ⊥)
told k l m n h a b = at (eqb m n) refl
  where
    at : (x : Bool) → eqb m n ≡ x → MatchBool x (k ≡ l) (k ≡ l → ⊥)
    at true e = same_kind k l h (sym a ∙ eqb-true m n e ∙ b)
    at false e = λ q. eqb-false m n e (a ∙ ap code q ∙ sym b)
