-- What a phrase is made of, by the token that it begins with.
use Rattle.std.proofs.Common.{◌≡◌, ℕ, ◌+◌, ◌-◌, Bool, true, false, cond, eqb, ltb, List, [], ◌∷◌, get_or, MatchBool, sym, refl, ap, ◌∙◌, subst}
use Rattle.tokens.specs.declared.kind.Kind.{Kind}
use Rattle.tokens.specs.declared.kind.Name.{Name}
use Rattle.tokens.specs.declared.kind.Token.{Token}
use Rattle.tokens.specs.Kinds.{code, kind_at, place_at}
use Rattle.grammar.specs.declared.occurrence.Infix.{Infix}
use Rattle.grammar.specs.declared.occurrence.Infix.TheVariants.{Add, Subtract, Multiply, Divide, Remainder, Same, Less}
use Rattle.grammar.specs.declared.occurrence.Unary.{Unary}
use Rattle.grammar.specs.declared.occurrence.Unary.TheVariants.{Fst, Snd, Len, Range, Flat}
use Rattle.grammar.specs.declared.occurrence.Operation.{Operation}
use Rattle.grammar.specs.declared.occurrence.Operation.TheVariants.{Sum, Max, Or, Lin, House}
use Rattle.grammar.specs.Tree.{Fold, scan, reduce, Tree, number, truth, variable, each, sieve, apply, fold, group, pair, part, empty, list, int, bool, both, many}
use Rattle.grammar.specs.Grammar.{sign, word, joint, folder, types, expressions, atoms, operands, elements, Derives, by_int, by_bool, by_both, by_many, by_number, by_true, by_false, by_name, by_group, by_pair, by_list, by_empty, by_each, by_sieve, by_word, by_part, by_fold}

-- a token stands for one operation
signs : List Infix
signs = Same ∷ Less ∷ Add ∷ Subtract ∷ Multiply ∷ Divide ∷ Remainder ∷ []

sign_back : (o : Infix) → get_or signs (code (sign o) - 41) Same ≡ o
unfolding signs
sign_back Add = refl
sign_back Subtract = refl
sign_back Multiply = refl
sign_back Divide = refl
sign_back Remainder = refl
sign_back Same = refl
sign_back Less = refl

pub same_sign : {k : Kind} → (o p : Infix) → k ≡ sign o → k ≡ sign p → o ≡ p
same_sign o p e f = sym (sign_back o) ∙ ap (λ k. get_or signs (code k - 41) Same) (sym e ∙ f) ∙ sign_back p

words : List Unary
words = Fst ∷ Snd ∷ Len ∷ Range ∷ Flat ∷ []

word_back : (o : Unary) → get_or words (code (word o) - 18) Fst ≡ o
unfolding words
word_back Fst = refl
word_back Snd = refl
word_back Len = refl
word_back Range = refl
word_back Flat = refl

pub same_word : {k : Kind} → (o p : Unary) → k ≡ word o → k ≡ word p → o ≡ p
same_word o p e f = sym (word_back o) ∙ ap (λ k. get_or words (code k - 18) Fst) (sym e ∙ f) ∙ word_back p

joints : List Operation
joints = Sum ∷ Max ∷ Or ∷ Lin ∷ House ∷ []

joint_back : (o : Operation) → get_or joints (code (joint o) - 26) Sum ≡ o
unfolding joints
joint_back Sum = refl
joint_back Max = refl
joint_back Or = refl
joint_back Lin = refl
joint_back House = refl

pub same-joint : {k : Kind} → (o p : Operation) → k ≡ joint o → k ≡ joint p → o ≡ p
same-joint o p e f = sym (joint_back o) ∙ ap (λ k. get_or joints (code k - 26) Sum) (sym e ∙ f) ∙ joint_back p

folder_back : (f : Fold) → cond (eqb (code (folder f)) 24) scan reduce ≡ f
folder_back scan = refl
folder_back reduce = refl

pub same-folder : {k : Kind} → (f g : Fold) → k ≡ folder f → k ≡ folder g → f ≡ g
same-folder f g e h = sym (folder_back f) ∙ ap (λ k. cond (eqb (code k) 24) scan reduce) (sym e ∙ h) ∙ folder_back g

-- types

pub data Both (ts : List Token) (i : ℕ) : ℕ → Tree → Type 0 where
  made : {j k : ℕ} {a b : Tree} → Derives ts types (i + 1) j a → kind_at ts j ≡ Kind.Comma → Derives ts types (j + 1) k b → Both ts i (k + 1) (both (place_at ts i) a b)

pub data Many (ts : List Token) (i : ℕ) : ℕ → Tree → Type 0 where
  made : {j : ℕ} {a : Tree} → Derives ts types (i + 1) j a → Many ts i (j + 1) (many (place_at ts i) a)

pub data Bool-type (ts : List Token) (i : ℕ) : ℕ → Tree → Type 0 where
  made : Bool-type ts i (i + 1) (bool (place_at ts i))

pub data Int-type (ts : List Token) (i : ℕ) : ℕ → Tree → Type 0 where
  made : Int-type ts i (i + 1) (int (place_at ts i))

abbrev pub TypeShape : (ts : List Token) (i j : ℕ) (t : Tree) → Kind → Type 0
TypeShape ts i j t k = MatchBool (eqb (code k) 31) (Both ts i j t) (MatchBool (eqb (code k) 33) (Many ts i j t) (MatchBool (eqb (code k) 9) (Bool-type ts i j t) (Int-type ts i j t)))

shown : (F : Kind → Type 0) {k l : Kind} → k ≡ l → F l → F k
shown F e h = subst F (sym e) h

pub type_shape : {ts : List Token} {i j : ℕ} {t : Tree} → Derives ts types i j t → TypeShape ts i j t (kind_at ts i)
type_shape {ts} {i} {j} {t} (by_int e) = shown (TypeShape ts i j t) e made
type_shape {ts} {i} {j} {t} (by_bool e) = shown (TypeShape ts i j t) e made
type_shape {ts} {i} {j} {t} (by_both e a b c d) = shown (TypeShape ts i j t) e (made a b c)
type_shape {ts} {i} {j} {t} (by_many e a b) = shown (TypeShape ts i j t) e (made a)

-- atoms

pub data Group (ts : List Token) (i : ℕ) : ℕ → Tree → Type 0 where
  alone : {j : ℕ} {a : Tree} → Derives ts expressions (i + 1) j a → kind_at ts j ≡ Kind.Close → Group ts i (j + 1) (group (place_at ts i) a)
  with_one : {j k : ℕ} {a b : Tree} → Derives ts expressions (i + 1) j a → kind_at ts j ≡ Kind.Comma → Derives ts expressions (j + 1) k b → kind_at ts k ≡ Kind.Close → Group ts i (k + 1) (pair (place_at ts i) a b)

pub data Listing (ts : List Token) (i : ℕ) : ℕ → Tree → Type 0 where
  made : {j : ℕ} {a : Tree} → Derives ts elements (i + 1) j a → kind_at ts j ≡ Kind.SquareClose → Listing ts i (j + 1) (list (place_at ts i) a)

pub data Each (ts : List Token) (i : ℕ) : ℕ → Tree → Type 0 where
  alone : {j k : ℕ} {n : Name} {b s : Tree} → Derives ts expressions (i + 1) j b → kind_at ts j ≡ Kind.Colon → kind_at ts (j + 1) ≡ Kind.Name n → Derives ts expressions (j + 1 + 1 + 1) k s → kind_at ts k ≡ Kind.CurlyClose → Each ts i (k + 1) (each (place_at ts i) n b s)
  with_one : {j k l : ℕ} {n : Name} {b s f : Tree} → Derives ts expressions (i + 1) j b → kind_at ts j ≡ Kind.Colon → kind_at ts (j + 1) ≡ Kind.Name n → Derives ts expressions (j + 1 + 1 + 1) k s → kind_at ts k ≡ Kind.Bar → Derives ts expressions (k + 1) l f → kind_at ts l ≡ Kind.CurlyClose → Each ts i (l + 1) (sieve (place_at ts i) n b s f)

pub data Empty (ts : List Token) (i : ℕ) : ℕ → Tree → Type 0 where
  made : {j : ℕ} {a : Tree} → Derives ts types (i + 1 + 1) j a → Empty ts i (j + 1) (empty (place_at ts i) a)

pub data Part (ts : List Token) (i : ℕ) : ℕ → Tree → Type 0 where
  made : {j k : ℕ} {a b : Tree} → Derives ts expressions (i + 1 + 1) j a → kind_at ts j ≡ Kind.Comma → Derives ts expressions (j + 1) k b → kind_at ts k ≡ Kind.Close → Part ts i (k + 1) (part (place_at ts i) a b)

pub data Folds (ts : List Token) (i : ℕ) : ℕ → Tree → Type 0 where
  made : {j : ℕ} {a : Tree} → (f : Fold) (o : Operation) → kind_at ts i ≡ folder f → kind_at ts (i + 1) ≡ joint o → Derives ts operands (i + 1 + 1) j a → Folds ts i j (fold (place_at ts i) f o a)

pub data Word (ts : List Token) (i : ℕ) : ℕ → Tree → Type 0 where
  made : {j : ℕ} {a : Tree} → (o : Unary) → kind_at ts i ≡ word o → Derives ts operands (i + 1) j a → Word ts i j (apply (place_at ts i) o a)

pub data Named (ts : List Token) (i : ℕ) : ℕ → Tree → Type 0 where
  made : {n : Name} → kind_at ts i ≡ Kind.Name n → Named ts i (i + 1) (variable (place_at ts i) n)

pub data Numbered (ts : List Token) (i : ℕ) : ℕ → Tree → Type 0 where
  made : {v : ℕ} → kind_at ts i ≡ Kind.Number v → Numbered ts i (i + 1) (number (place_at ts i) v)

pub data Truth (b : Bool) (ts : List Token) (i : ℕ) : ℕ → Tree → Type 0 where
  made : Truth b ts i (i + 1) (truth (place_at ts i) b)

abbrev pub AtomShape : (ts : List Token) (i j : ℕ) (t : Tree) → Kind → Type 0
AtomShape ts i j t k =
    MatchBool (eqb (code k) 31) (Group ts i j t)
    (MatchBool (eqb (code k) 33) (Listing ts i j t)
    (MatchBool (eqb (code k) 35) (Each ts i j t)
    (MatchBool (eqb (code k) 17) (Empty ts i j t)
    (MatchBool (eqb (code k) 23) (Part ts i j t)
    (MatchBool (ltb 23 (code k)) (Folds ts i j t)
    (MatchBool (ltb 17 (code k)) (Word ts i j t)
    (MatchBool (eqb (code k) 5) (Named ts i j t)
    (MatchBool (eqb (code k) 6) (Numbered ts i j t)
    (MatchBool (eqb (code k) 15) (Truth true ts i j t) (Truth false ts i j t))))))))))

pub word_shape : (o : Unary) (ts : List Token) (i j : ℕ) (t : Tree) → AtomShape ts i j t (word o) ≡ Word ts i j t
word_shape Fst ts i j t = refl
word_shape Snd ts i j t = refl
word_shape Len ts i j t = refl
word_shape Range ts i j t = refl
word_shape Flat ts i j t = refl

pub fold_shape : (f : Fold) (ts : List Token) (i j : ℕ) (t : Tree) → AtomShape ts i j t (folder f) ≡ Folds ts i j t
fold_shape scan ts i j t = refl
fold_shape reduce ts i j t = refl

pub atom_shape : {ts : List Token} {i j : ℕ} {t : Tree} → Derives ts atoms i j t → AtomShape ts i j t (kind_at ts i)
atom_shape {ts} {i} {j} {t} (by_number e) = shown (AtomShape ts i j t) e (made e)
atom_shape {ts} {i} {j} {t} (by_true e) = shown (AtomShape ts i j t) e made
atom_shape {ts} {i} {j} {t} (by_false e) = shown (AtomShape ts i j t) e made
atom_shape {ts} {i} {j} {t} (by_name e) = shown (AtomShape ts i j t) e (made e)
atom_shape {ts} {i} {j} {t} (by_group e a b) = shown (AtomShape ts i j t) e (alone a b)
atom_shape {ts} {i} {j} {t} (by_pair e a b c d) = shown (AtomShape ts i j t) e (with_one a b c d)
atom_shape {ts} {i} {j} {t} (by_list e a b) = shown (AtomShape ts i j t) e (made a b)
atom_shape {ts} {i} {j} {t} (by_empty e _ a _) = shown (AtomShape ts i j t) e (made a)
atom_shape {ts} {i} {j} {t} (by_each e a b c _ d f) = shown (AtomShape ts i j t) e (alone a b c d f)
atom_shape {ts} {i} {j} {t} (by_sieve e a b c _ d f g h) = shown (AtomShape ts i j t) e (with_one a b c d f g h)
atom_shape {ts} {i} {j} {t} (by_word o e a) = shown (AtomShape ts i j t) e (subst (λ F. F) (sym (word_shape o ts i j t)) (made o e a))
atom_shape {ts} {i} {j} {t} (by_part e _ a b c d) = shown (AtomShape ts i j t) e (made a b c d)
atom_shape {ts} {i} {j} {t} (by_fold f o e a b) = shown (AtomShape ts i j t) e (subst (λ F. F) (sym (fold_shape f ts i j t)) (made f o e a b))
