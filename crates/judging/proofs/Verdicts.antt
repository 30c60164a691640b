-- What a node shows as, after its operands: each primitive by what its rule gives.
use Rattle.std.proofs.Common.{◌≡◌, ℕ, suc, Bool, true, false, cond, leb, List, [], ◌∷◌, ◌++◌, length, sym, ap, ◌∙◌, subst}
use mathlib.Core.Option.{Option, none, some}
use Rattle.std.proofs.lemmas.List.{append_assoc}
use Rattle.tokens.specs.declared.kind.Name.{Name}
use Rattle.grammar.specs.declared.occurrence.Infix.{Infix}
use Rattle.grammar.specs.declared.occurrence.Unary.{Unary}
use Rattle.grammar.specs.declared.occurrence.Unary.TheVariants.{Fst, Snd, Len, Range, Flat}
use Rattle.grammar.specs.declared.occurrence.Operation.{Operation}
use Rattle.grammar.specs.declared.occurrence.Occurrence.{Occurrence}
use Rattle.grammar.specs.declared.occurrence.What.{What}
use Rattle.grammar.specs.Tree.{Fold, scan, reduce, occ, folding}
use Rattle.types.specs.Types.{Ty, int, bool, pair, list, parts, same}
use Rattle.lang.specs.Expr.{Op, part_op, bracket, Args, nil, more}
use Rattle.lang.specs.Scope.{Binding, Found}
use Rattle.lang.specs.Rules.{Verdict, gives, unfit, large, limit, limited, is, of_pair, of_list, Alike, alike, all_alike, list_of}
use Rattle.lang.specs.Rules.{infix_rule, index_rule, part_rule, unary_rule, fold_rule, list_rule}
use Rattle.lang.specs.Outcome.{Out}
use Rattle.lang.specs.Elaborate.{Typed, Operands, found, judged, one, two}
use Rattle.lang.proofs.Rules.{copied}
use Rattle.lang.proofs.Sound.{Holds, after}
use Rattle.judging.specs.Notes.{note, written_in, notes, notes_of}
use Rattle.judging.specs.Acts.{Resolves}
use Rattle.judging.specs.Occurrences.{op_occs, typed_occs, typed_occs_of}
use Rattle.judging.proofs.Resolves.{join, single, alone}

-- ---- an expression, and operands
abbrev pub Shown : List Occurrence → {Γ : List Ty} → Typed Γ → Type 0
Shown os x = Resolves os (notes x.1) (typed_occs x.1)

abbrev pub AllShown : List Occurrence → {Γ : List Ty} → Operands Γ → Type 0
AllShown os xs = Resolves os (notes_of xs.1) (typed_occs_of xs.1)

-- ---- primitives: what a verdict gives at p shows as these occurrences
abbrev Does : List Occurrence → ℕ → {ts : List Ty} → Verdict ts → Type 0
Does os p (gives t o) = Resolves os (written_in o ++ note t) (op_occs p o)
Does os p unfit = Unit {0}
Does os p large = Unit {0}

module _ (os : List Occurrence) (p : ℕ) where
  does_is : {a b : Ty} (F : Ty → List Ty) (m : Option (Id Ty a b)) (v : Verdict (F b)) → Does os p v → Does os p (is F m v)
  does_is F none v h = tt
  does_is F (some refl) v h = h

  does_pair : (F : Ty → List Ty) (t : Ty) (v : (a b : Ty) → Verdict (F (pair a b))) → ((a b : Ty) → Does os p (v a b)) → Does os p (of_pair F t v)
  does_pair F int v h = tt
  does_pair F bool v h = tt
  does_pair F (pair a b) v h = h a b
  does_pair F (list a) v h = tt

  does_list : (F : Ty → List Ty) (t : Ty) (v : (a : Ty) → Verdict (F (list a))) → ((a : Ty) → Does os p (v a)) → Does os p (of_list F t v)
  does_list F int v h = tt
  does_list F bool v h = tt
  does_list F (pair a b) v h = tt
  does_list F (list a) v h = h a

  does_cond : {ts : List Ty} (b : Bool) (v : Verdict ts) → Does os p v → Does os p (cond b v large)
  does_cond true v h = h
  does_cond false v h = tt

  pub does_limited : {ts : List Ty} {t : Ty} (o : Op ts t) → Does os p (gives t o) → Does os p (limited o)
  does_limited {t = t} o h = does_cond (leb (parts t) limit) (gives t o) h

pub does_infix : (p : ℕ) (o : Infix) (a b : Ty) → Does (occ (What.Operate o) p) p (infix_rule o a b)
does_infix p o a b = does_is _ p (λ t. t ∷ b ∷ []) (same a int) _ (does_is _ p (λ t. int ∷ t ∷ []) (same b int) _ single)

pub does_index : (p : ℕ) (a b : Ty) → Does (occ What.Index p) p (index_rule a b)
does_index p a b = does_list _ p (λ t. t ∷ b ∷ []) a _ λ e. does_is _ p (λ t. list e ∷ t ∷ []) (same b int) _ single

pub does_part : (p : ℕ) (a b : Ty) → Does (occ What.Part p) p (part_rule a b)
does_part p a b = does_list _ p (λ t. t ∷ b ∷ []) a _ λ e. does_is _ p (λ t. list e ∷ t ∷ []) (same b (list int)) _ (does_limited _ p part_op single)

pub does_unary : (p : ℕ) (o : Unary) (a : Ty) → Does (occ (What.Apply o) p) p (unary_rule o a)
does_unary p Fst a = does_pair _ p (λ t. t ∷ []) a _ (λ u v. single)
does_unary p Snd a = does_pair _ p (λ t. t ∷ []) a _ (λ u v. single)
does_unary p Len a = does_list _ p (λ t. t ∷ []) a _ (λ e. single)
does_unary p Range a = does_is _ p (λ t. t ∷ []) (same a int) _ single
does_unary p Flat a = does_list _ p (λ t. t ∷ []) a _ λ e. does_list _ p (λ t. list t ∷ []) e _ (λ d. single)

pub does_fold : (p : ℕ) (f : Fold) (o : Operation) (a : Ty) → Does (occ (folding f o) p) p (fold_rule f o a)
does_fold p scan o a = does_is _ p (λ t. t ∷ []) (same a _) _ single
does_fold p reduce o a = does_is _ p (λ t. t ∷ []) (same a _) _ single

does_list_of : {t : Ty} {ts : List Ty} (n p : ℕ) (m : Option (Alike t ts)) → length (t ∷ ts) ≡ n → Does (occ (What.List n) p) p (list_of m)
does_list_of n p none e = tt
does_list_of {t = t} n p (some (alike k)) e =
    let d : suc k ≡ n = ap suc (sym (copied k t)) ∙ e in
    subst (λ n. Does (occ (What.List n) p) p (list_of {t = t} (some (alike k)))) d
    (does_cond (occ (What.List (suc k)) p) p (leb (suc k) limit) _ (does_limited (occ (What.List (suc k)) p) p (bracket k t) single))

pub does_bracket : (n p : ℕ) (ts : List Ty) → length ts ≡ n → Does (occ (What.List n) p) p (list_rule ts)
does_bracket n p [] e = tt
does_bracket n p (t ∷ ts) e = does_list_of n p (all_alike t ts) e

-- ---- nodes
pub judged_shown : {Γ ts : List Ty} (os rs : List Occurrence) (p : ℕ) (v : Verdict ts) (es : Args Γ ts) →
    Does rs p v → Resolves os (notes_of es) (typed_occs_of es) → Holds (Shown (os ++ rs)) (judged p v es)
unfolding notes typed_occs
judged_shown os rs p (gives t o) es d h = rw (append_assoc (notes_of es) (written_in o) (note t)) (join h d)
judged_shown os rs p unfit es d h = tt
judged_shown os rs p large es d h = tt

pub one_shown : {Γ : List Ty} (os rs : List Occurrence) (p : ℕ) (rule : (a : Ty) → Verdict (a ∷ [])) (x : Out (Typed Γ)) →
    ((a : Ty) → Does rs p (rule a)) → Holds (Shown os) x → Holds (Shown (os ++ rs)) (one p rule x)
unfolding notes_of typed_occs_of
one_shown os rs p rule x d h =
    after (Shown os) (Shown (os ++ rs)) x _ h λ x h. judged_shown os rs p (rule x.0) (more x.1 nil) (d x.0) (alone h)

pub two_shown : {Γ : List Ty} (os qs rs : List Occurrence) (p : ℕ) (rule : (a b : Ty) → Verdict (a ∷ b ∷ [])) (x y : Out (Typed Γ)) →
    ((a b : Ty) → Does rs p (rule a b)) → Holds (Shown os) x → Holds (Shown qs) y → Holds (Shown (os ++ qs ++ rs)) (two p rule x y)
unfolding notes_of typed_occs_of
two_shown os qs rs p rule x y d h k =
    after (Shown os) (Shown (os ++ qs ++ rs)) x _ h λ x h. after (Shown qs) (Shown (os ++ qs ++ rs)) y _ k λ y k.
    judged_shown (os ++ qs) rs p (rule x.0 y.0) (more x.1 (more y.1 nil)) (d x.0 y.0) (join h (alone k))

pub found_shown : (s : List Binding) (p : ℕ) (n : Name) (x : Option (Found s)) → Holds (Shown (occ (What.Variable n) p)) (found s p x)
unfolding notes typed_occs
found_shown s p n none = tt
found_shown s p n (some x) = single
