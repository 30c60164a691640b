-- What `==` of two kinds tells.
use Rattle.std.proofs.Common.{◌≡◌, Bool, true, false, List, [], ◌∷◌, Decides, sym, ap, ◌∙◌, inl, inr, rules}
use Rattle.std.proofs.lemmas.Bool.{both_ways}
use denote.Struct.Field.{Field}
use denote.Struct.Values.{Values}
use denote.Enum.Declared.{Choice, values_one}
use denote.Enum.Compared.{Each, by}
use Rattle.tokens.specs.declared.kind.Kind.{Kind}
use Rattle.tokens.specs.contracts.kind.Kind.{enum}
use Rattle.tokens.specs.contracts.kind.KindPartialEq.TheImpl.{ghosts}

-- at each variant `==` of the fields tells whether they are one
abbrev Tells : (Fss : List (List Field)) → Each Bool Fss → Type 0
Tells [] es = Unit {0}
Tells (Fs ∷ Fss) es = ((x y : Values Fs) → Decides (es.0 x y) (x ≡ y)) × Tells Fss es.1

tells_of : (Fss : List (List Field)) (es : Each Bool Fss) → Tells Fss es → (c d : Choice Fss) → Decides (by false false Fss es c d) (c ≡ d)
tells_of [] es all c d = absurd c
tells_of (Fs ∷ Fss) es all (inl x) (inl y) = (λ h. ap inl ((all.0 x y).0 h), λ e. (all.0 x y).1 (cc))
tells_of (Fs ∷ Fss) es all (inl x) (inr y) = (λ h. cc, λ e. cc)
tells_of (Fs ∷ Fss) es all (inr x) (inl y) = (λ h. cc, λ e. cc)
tells_of (Fs ∷ Fss) es all (inr x) (inr y) = (λ h. ap inr ((tells_of Fss es.1 all.1 x y).0 h), λ e. (tells_of Fss es.1 all.1 x y).1 (cc))

decides : (k l : Kind) → Decides (ghosts.eq k l) (k ≡ l)
decides k l =
    let t : Decides (ghosts.eq k l) (enum.as_values k ≡ enum.as_values l) = tells_of enum.parts _ (search rules) (enum.as_values k) (enum.as_values l) in
    (λ h. values_one enum k l (t.0 h), λ e. t.1 (ap enum.as_values e))

pub same : (k l : Kind) (b : Bool) → b ≡ ghosts.eq k l → b ≡ true → k ≡ l
same k l b is h = (decides k l).0 (sym is ∙ h)

pub differs : (k l : Kind) (b : Bool) → b ≡ ghosts.eq k l → b ≡ false → k ≡ l → ⊥
differs k l b is h e = both_ways b h (is ∙ (decides k l).1 e)
