-- What the rules say of operands that do not fit.
use Rattle.std.proofs.Common.{◌≡◌, List, [], ◌∷◌, refl}
use mathlib.Core.Option.{none}
use Rattle.std.specs.declared.result.Result.TheVariants.{Err}
use Rattle.types.specs.Types.{Ty, int, bool, pair, list, same, NotList, NotPair}
use Rattle.grammar.specs.declared.occurrence.Unary.TheVariants.{Fst, Snd, Len, Flat}
use Rattle.lang.specs.Rules.{Verdict, of_list, of_pair, index_rule, part_rule, unary_rule}
use Rattle.typing.specs.Holding.{outcome}
use Rattle.typing.specs.declared.misfit.Misfit.TheVariants.{Unfit}

not_list : (F : Ty → List Ty) (t : Ty) (v : (a : Ty) → Verdict (F (list a))) → NotList t → outcome (of_list F t v) ≡ Err Unfit
not_list F int v h = refl
not_list F bool v h = refl
not_list F (pair a b) v h = refl
not_list F (list a) v h = absurd h

not_pair : (F : Ty → List Ty) (t : Ty) (v : (a b : Ty) → Verdict (F (pair a b))) → NotPair t → outcome (of_pair F t v) ≡ Err Unfit
not_pair F int v h = refl
not_pair F bool v h = refl
not_pair F (pair a b) v h = absurd h
not_pair F (list a) v h = refl

pub index_left : (a b : Ty) → NotList a → outcome (index_rule a b) ≡ Err Unfit
index_left a b h = not_list (λ t. t ∷ b ∷ []) a _ h

pub part_left : (a b : Ty) → NotList a → outcome (part_rule a b) ≡ Err Unfit
part_left a b h = not_list (λ t. t ∷ b ∷ []) a _ h

pub first_unfit : (a : Ty) → NotPair a → outcome (unary_rule Fst a) ≡ Err Unfit
first_unfit a h = not_pair (λ t. t ∷ []) a _ h

pub second_unfit : (a : Ty) → NotPair a → outcome (unary_rule Snd a) ≡ Err Unfit
second_unfit a h = not_pair (λ t. t ∷ []) a _ h

pub length_unfit : (a : Ty) → NotList a → outcome (unary_rule Len a) ≡ Err Unfit
length_unfit a h = not_list (λ t. t ∷ []) a _ h

pub flat_unfit : (a : Ty) → NotList a → outcome (unary_rule Flat a) ≡ Err Unfit
flat_unfit a h = not_list (λ t. t ∷ []) a _ h

pub flat_inner : (a e : Ty) → a ≡ list e → NotList e → outcome (unary_rule Flat a) ≡ Err Unfit
flat_inner a e x h = rw x (not_list (λ t. list t ∷ []) e _ h)

pub none_list : (t u : Ty) → NotList t → same t (list u) ≡ none
none_list int u h = refl
none_list bool u h = refl
none_list (pair a b) u h = refl
none_list (list a) u h = absurd h

pub ruleset unfits = (index_left, part_left, first_unfit, second_unfit, length_unfit, flat_unfit, flat_inner, none_list)
