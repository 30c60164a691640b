-- What a phrase is, by the token that it begins with: taken apart and put together.
use Rattle.std.proofs.Common.{◌≡◌, ℕ, ◌+◌, Bool, true, false, cond, eqb, ltb, List, [], ◌∷◌, ◌++◌, sym, refl, subst}
use Rattle.tokens.specs.declared.kind.Kind.{Kind}
use Rattle.tokens.specs.declared.kind.Name.{Name}
use Rattle.tokens.specs.declared.kind.Token.{Token}
use Rattle.tokens.specs.Kinds.{code, kind_at, place_at}
use Rattle.grammar.specs.declared.occurrence.Unary.{Unary}
use Rattle.grammar.specs.declared.occurrence.Unary.TheVariants.{Fst, Snd, Len, Range, Flat}
use Rattle.grammar.specs.Tree.{Fold, scan, reduce, Tree, list}
use Rattle.grammar.specs.Grammar.{word, folder, Chain, sums, products, Sort, programs, types, expressions, tests, chains, posts, atoms, operands, elements, linked, Derives, by_program, by_int, by_bool, by_both, by_many, by_let, by_if, by_test, by_comparison, by_total, by_link, by_linked, by_index, by_atom, by_number, by_true, by_false, by_name, by_group, by_pair, by_list, by_empty, by_each, by_sieve, by_word, by_part, by_fold, by_operand, by_first, by_more}
use Rattle.grammar.specs.Law.{compared, links, indexes, items, closing, filter, Rest, no_test, a_test, no_link, a_link, no_index, an_index, no_item, an_item, no_second, a_second, no_filter, a_filter, Wanted, one, a_name, a_joint, some, rest, Parses}
use Rattle.grammar.proofs.Follow.{clash}

-- what a phrase that begins with the token is
abbrev pub start : Sort → Kind → List Wanted
start programs k = one Kind.Main ∷ one Kind.Open ∷ a_name ∷ one Kind.Colon ∷ some types ∷ one Kind.Close ∷ one Kind.Colon ∷ some types ∷ one Kind.Equal ∷ some expressions ∷ []
start types k = cond (eqb (code k) 31) (one k ∷ some types ∷ one Kind.Comma ∷ some types ∷ one Kind.Close ∷ []) (cond (eqb (code k) 33) (one k ∷ some types ∷ one Kind.SquareClose ∷ []) (one k ∷ []))
start expressions k = cond (eqb (code k) 10) (one k ∷ a_name ∷ one Kind.Equal ∷ some expressions ∷ one Kind.In ∷ some expressions ∷ []) (cond (eqb (code k) 12) (one k ∷ some expressions ∷ one Kind.Then ∷ some expressions ∷ one Kind.Else ∷ some expressions ∷ []) (some tests ∷ []))
start tests k = some (chains sums) ∷ rest compared ∷ []
start (chains c) k = some (linked c) ∷ rest (links c) ∷ []
start posts k = some atoms ∷ rest indexes ∷ []
start atoms k =
    cond (eqb (code k) 31) (one k ∷ some expressions ∷ rest closing ∷ [])
    (cond (eqb (code k) 33) (one k ∷ some expressions ∷ rest items ∷ [])
    (cond (eqb (code k) 35) (one k ∷ some expressions ∷ one Kind.Colon ∷ a_name ∷ one Kind.In ∷ some expressions ∷ rest filter ∷ [])
    (cond (eqb (code k) 17) (one k ∷ one Kind.Open ∷ some types ∷ one Kind.Close ∷ [])
    (cond (eqb (code k) 23) (one k ∷ one Kind.Open ∷ some expressions ∷ one Kind.Comma ∷ some expressions ∷ one Kind.Close ∷ [])
    (cond (ltb 23 (code k)) (one k ∷ a_joint ∷ some operands ∷ [])
    (cond (ltb 17 (code k)) (one k ∷ some operands ∷ []) (one k ∷ [])))))))
start operands k = one Kind.Open ∷ some expressions ∷ one Kind.Close ∷ []
start elements k = []

pub start_word : (o : Unary) → start atoms (word o) ≡ one (word o) ∷ some operands ∷ []
start_word Fst = refl
start_word Snd = refl
start_word Len = refl
start_word Range = refl
start_word Flat = refl

pub start_folder : (f : Fold) → start atoms (folder f) ≡ one (folder f) ∷ a_joint ∷ some operands ∷ []
start_folder scan = refl
start_folder reduce = refl

-- `let` and `if` begin no test
plain : Kind → Bool
plain k = cond (eqb (code k) 10) false (cond (eqb (code k) 12) false true)

Tests : Sort → Kind → Type 0
Tests programs k = Unit {0}
Tests types k = Unit {0}
Tests expressions k = Unit {0}
Tests tests k = plain k ≡ true
Tests (chains _) k = plain k ≡ true
Tests posts k = plain k ≡ true
Tests atoms k = plain k ≡ true
Tests operands k = Unit {0}
Tests elements k = Unit {0}

plain_by : {k l : Kind} → k ≡ l → plain l ≡ true → plain k ≡ true
plain_by e h = subst (λ x. plain x ≡ true) (sym e) h

plain_word : (o : Unary) → plain (word o) ≡ true
unfolding plain
plain_word Fst = refl
plain_word Snd = refl
plain_word Len = refl
plain_word Range = refl
plain_word Flat = refl

plain-folder : (f : Fold) → plain (folder f) ≡ true
unfolding plain
plain-folder scan = refl
plain-folder reduce = refl

-- of a part of a chain
tests_linked : (c : Chain) (k : Kind) → Tests (linked c) k → plain k ≡ true
unfolding Tests
tests_linked sums k h = h
tests_linked products k h = h

begins : {xs : List Token} {s : Sort} {i j : ℕ} {t : Tree} → Derives xs s i j t → Tests s (kind_at xs i)
unfolding Tests plain
begins (by_program _ _ _ _ _ _ _ _ _ _) = tt
begins (by_int _) = tt
begins (by_bool _) = tt
begins (by_both _ _ _ _ _) = tt
begins (by_many _ _ _) = tt
begins (by_let _ _ _ _ _ _) = tt
begins (by_if _ _ _ _ _ _) = tt
begins (by_test _) = tt
begins (by_comparison a _ _ _) = begins a
begins (by_total a) = begins a
begins (by_link a _ _ _) = begins a
begins (by_linked {c = c} a) = tests_linked c _ (begins a)
begins (by_index a _ _ _) = begins a
begins (by_atom a) = begins a
begins (by_number e) = plain_by e refl
begins (by_true e) = plain_by e refl
begins (by_false e) = plain_by e refl
begins (by_name e) = plain_by e refl
begins (by_group e _ _) = plain_by e refl
begins (by_pair e _ _ _ _) = plain_by e refl
begins (by_list e _ _) = plain_by e refl
begins (by_empty e _ _ _) = plain_by e refl
begins (by_each e _ _ _ _ _ _) = plain_by e refl
begins (by_sieve e _ _ _ _ _ _ _ _) = plain_by e refl
begins (by_word o e _) = plain_by e (plain_word o)
begins (by_part e _ _ _ _ _) = plain_by e refl
begins (by_fold f _ e _ _) = plain_by e (plain-folder f)
begins (by_operand _ _ _) = tt
begins (by_first _) = tt
begins (by_more _ _ _) = tt

pub begins_test : {xs : List Token} {i j : ℕ} {t : Tree} → Derives xs tests i j t → (kind_at xs i ≡ Kind.Let → ⊥) × (kind_at xs i ≡ Kind.If → ⊥)
unfolding Tests plain
begins_test d = (λ e. clash (sym (subst (λ k. plain k ≡ true) e (begins d))), λ e. clash (sym (subst (λ k. plain k ≡ true) e (begins d))))

start_test : (k : Kind) → plain k ≡ true → start expressions k ≡ some tests ∷ []
unfolding plain
start_test k h = at (eqb (code k) 10) (eqb (code k) 12) h
  where
    at : (a b : Bool) → cond a false (cond b false true) ≡ true → cond a (one k ∷ a_name ∷ one Kind.Equal ∷ some expressions ∷ one Kind.In ∷ some expressions ∷ []) (cond b (one k ∷ some expressions ∷ one Kind.Then ∷ some expressions ∷ one Kind.Else ∷ some expressions ∷ []) (some tests ∷ [])) ≡ some tests ∷ []
    at true b e = absurd (clash (sym e))
    at false true e = absurd (clash (sym e))
    at false false e = refl

-- a phrase, taken apart

starting : (s : Sort) (γ : List Wanted) (xs : List Token) (i : ℕ) (k : Kind) → kind_at xs i ≡ k → Parses xs (start s k ++ γ) i → Parses xs (start s (kind_at xs i) ++ γ) i
starting s γ xs i k e h = subst (λ k. Parses xs (start s k ++ γ) i) (sym e) h

pub links_out : {xs : List Token} {c : Chain} {i j k : ℕ} {t : Tree} → Derives xs (chains c) i j t → Rest xs (links c) j k → (m : ℕ) × (u : Tree) × Derives xs (linked c) i m u × Rest xs (links c) m k
links_out (by_link a q e b) r = links_out a (a_link q e b r)
links_out (by_linked a) r = (_, _, a, r)

pub indexes_out : {xs : List Token} {i j k : ℕ} {t : Tree} → Derives xs posts i j t → Rest xs indexes j k → (m : ℕ) × (u : Tree) × Derives xs atoms i m u × Rest xs indexes m k
indexes_out (by_index a e b f) r = indexes_out a (an_index e b f r)
indexes_out (by_atom a) r = (_, _, a, r)

items_out : {xs : List Token} {i j k : ℕ} {t : Tree} → Derives xs elements i j t → Rest xs items j k → (m : ℕ) × (u : Tree) × Derives xs expressions i m u × Rest xs items m k
items_out (by_first a) r = (_, _, a, r)
items_out (by_more a e b) r = items_out a (an_item e b r)

pub expression_out : (γ : List Wanted) {xs : List Token} {i j : ℕ} {t : Tree} → Derives xs expressions i j t → Parses xs γ j → Parses xs (start expressions (kind_at xs i) ++ γ) i
unfolding Tests
expression_out γ (by_let a b c d f g) r = starting expressions γ _ _ Kind.Let a (a, ((_, b), (c, (_, _, d, (f, (_, _, g, r))))))
expression_out γ (by_if a b c d f g) r = starting expressions γ _ _ Kind.If a (a, (_, _, b, (c, (_, _, d, (f, (_, _, g, r))))))
expression_out γ {xs} {i} (by_test d) r = subst (λ δ. Parses xs (δ ++ γ) i) (sym (start_test (kind_at xs i) (begins d))) (_, _, d, r)

pub type_out : (γ : List Wanted) {xs : List Token} {i j : ℕ} {t : Tree} → Derives xs types i j t → Parses xs γ j → Parses xs (start types (kind_at xs i) ++ γ) i
type_out γ (by_int e) r = starting types γ _ _ Kind.Int e (e, r)
type_out γ (by_bool e) r = starting types γ _ _ Kind.Bool e (e, r)
type_out γ (by_both e a b c d) r = starting types γ _ _ Kind.Open e (e, (_, _, a, (b, (_, _, c, (d, r)))))
type_out γ (by_many e a b) r = starting types γ _ _ Kind.SquareOpen e (e, (_, _, a, (b, r)))

pub atom_out : (γ : List Wanted) {xs : List Token} {i j : ℕ} {t : Tree} → Derives xs atoms i j t → Parses xs γ j → Parses xs (start atoms (kind_at xs i) ++ γ) i
atom_out γ (by_number {v = v} e) r = starting atoms γ _ _ (Kind.Number v) e (e, r)
atom_out γ (by_true e) r = starting atoms γ _ _ Kind.True e (e, r)
atom_out γ (by_false e) r = starting atoms γ _ _ Kind.False e (e, r)
atom_out γ (by_name {n = n} e) r = starting atoms γ _ _ (Kind.Name n) e (e, r)
atom_out γ (by_group e a b) r = starting atoms γ _ _ Kind.Open e (e, (_, _, a, (_, no_second b, r)))
atom_out γ (by_pair e a b c d) r = starting atoms γ _ _ Kind.Open e (e, (_, _, a, (_, a_second b c d, r)))
atom_out γ (by_list e a b) r = let u = items_out a (no_item b) in starting atoms γ _ _ Kind.SquareOpen e (e, (u.0, u.1, u.2, (_, u.3, r)))
atom_out γ (by_empty e a b c) r = starting atoms γ _ _ Kind.Empty e (e, (a, (_, _, b, (c, r))))
atom_out γ (by_each e a b c d f g) r = starting atoms γ _ _ Kind.CurlyOpen e (e, (_, _, a, (b, ((_, c), (d, (_, _, f, (_, no_filter g, r)))))))
atom_out γ (by_sieve e a b c d f g h k) r = starting atoms γ _ _ Kind.CurlyOpen e (e, (_, _, a, (b, ((_, c), (d, (_, _, f, (_, a_filter g h k, r)))))))
atom_out γ {xs} {i} (by_word o e a) r = starting atoms γ _ _ (word o) e (subst (λ δ. Parses xs (δ ++ γ) i) (sym (start_word o)) (e, (_, _, a, r)))
atom_out γ (by_part e a b c d f) r = starting atoms γ _ _ Kind.Part e (e, (a, (_, _, b, (c, (_, _, d, (f, r))))))
atom_out γ {xs} {i} (by_fold f o e a b) r = starting atoms γ _ _ (folder f) e (subst (λ δ. Parses xs (δ ++ γ) i) (sym (start_folder f)) (e, ((o, a), (_, _, b, r))))

pub program_out : (γ : List Wanted) {xs : List Token} {i j : ℕ} {t : Tree} → Derives xs programs i j t → Parses xs γ j → Parses xs (start programs (kind_at xs i) ++ γ) i
program_out γ (by_program a b c d e f g h k l) r = (a, (b, ((_, c), (d, (_, _, e, (f, (g, (_, _, h, (k, (_, _, l, r))))))))))

pub operand_out : (γ : List Wanted) {xs : List Token} {i j : ℕ} {t : Tree} → Derives xs operands i j t → Parses xs γ j → Parses xs (start operands (kind_at xs i) ++ γ) i
operand_out γ (by_operand a b c) r = (a, (_, _, b, (c, r)))

-- a phrase, put together

pub total_back : {xs : List Token} {i j k : ℕ} {t : Tree} → Derives xs (chains sums) i j t → Rest xs compared j k → (u : Tree) × Derives xs tests i k u
total_back d no_test = (_, by_total d)
total_back d (a_test c e b) = (_, by_comparison d c e b)

pub total_out : (γ : List Wanted) {xs : List Token} {i j : ℕ} {t : Tree} → Derives xs tests i j t → Parses xs γ j → Parses xs (some (chains sums) ∷ rest compared ∷ γ) i
total_out γ (by_comparison a c e b) r = (_, _, a, (_, a_test c e b, r))
total_out γ (by_total a) r = (_, _, a, (_, no_test, r))

pub links_back : {xs : List Token} {c : Chain} {i j k : ℕ} {t : Tree} → Derives xs (chains c) i j t → Rest xs (links c) j k → (u : Tree) × Derives xs (chains c) i k u
links_back d no_link = (_, d)
links_back d (a_link q e b r) = links_back (by_link d q e b) r

pub indexes_back : {xs : List Token} {i j k : ℕ} {t : Tree} → Derives xs posts i j t → Rest xs indexes j k → (u : Tree) × Derives xs posts i k u
indexes_back d no_index = (_, d)
indexes_back d (an_index e b f r) = indexes_back (by_index d e b f) r

-- the bracket, with the elements before it
items_back : {xs : List Token} {i j k : ℕ} {t : Tree} → Derives xs elements i j t → Rest xs items j k → (m : ℕ) × (u : Tree) × Derives xs elements i m u × (kind_at xs m ≡ Kind.SquareClose) × (k ≡ m + 1)
items_back d (no_item e) = (_, _, d, e, refl)
items_back d (an_item e b r) = items_back (by_more d e b) r

pub group_back : {xs : List Token} {i j k : ℕ} {a : Tree} → kind_at xs i ≡ Kind.Open → Derives xs expressions (i + 1) j a → Rest xs closing j k → (t : Tree) × Derives xs atoms i k t
group_back e a (no_second b) = (_, by_group e a b)
group_back e a (a_second b c d) = (_, by_pair e a b c d)

pub each_back : {xs : List Token} {i j k l : ℕ} {n : Name} {b s : Tree} → kind_at xs i ≡ Kind.CurlyOpen → Derives xs expressions (i + 1) j b → kind_at xs j ≡ Kind.Colon → kind_at xs (j + 1) ≡ Kind.Name n → kind_at xs (j + 1 + 1) ≡ Kind.In → Derives xs expressions (j + 1 + 1 + 1) k s → Rest xs filter k l → (t : Tree) × Derives xs atoms i l t
each_back e a b c d f (no_filter g) = (_, by_each e a b c d f g)
each_back e a b c d f (a_filter g h k) = (_, by_sieve e a b c d f g h k)

pub list_back : {xs : List Token} {i j k : ℕ} {a : Tree} → kind_at xs i ≡ Kind.SquareOpen → Derives xs expressions (i + 1) j a → Rest xs items j k → (t : Tree) × Derives xs atoms i k t
list_back {xs} {i} e a r = let u = items_back (by_first a) r in (_, subst (λ n. Derives xs atoms i n (list (place_at xs i) u.1)) (sym u.4) (by_list e u.2 u.3))
