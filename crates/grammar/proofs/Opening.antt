-- What is wanted, by the token at hand.
use Rattle.std.proofs.Common.{◌≡◌, ℕ, ◌<◌, List, ◌∷◌, ◌++◌, length, sym, refl, ◌∙◌, subst}
use Rattle.tokens.specs.declared.kind.Kind.{Kind}
use Rattle.tokens.specs.declared.kind.Name.{Name}
use Rattle.tokens.specs.declared.kind.Token.{Token}
use Rattle.tokens.specs.Kinds.{kind_at}
use Rattle.refusal.specs.declared.Refusal.{Refusal}
use Rattle.grammar.specs.declared.occurrence.Unary.{Unary}
use Rattle.grammar.specs.Tree.{Fold, Tree}
use Rattle.grammar.specs.Grammar.{word, folder, Chain, sums, Sort, programs, types, expressions, tests, chains, posts, atoms, operands, linked, Derives, by_program, by_int, by_bool, by_both, by_many, by_let, by_if, by_test, by_linked, by_atom, by_number, by_true, by_false, by_name, by_group, by_pair, by_list, by_empty, by_each, by_sieve, by_word, by_part, by_fold, by_operand}
use Rattle.grammar.specs.Law.{refusal_at, Refuses, compared, links, indexes, items, closing, filter, no_link, no_index, Wanted, one, a_name, a_joint, some, rest, Parses, Stands}
use Rattle.grammar.proofs.Wanting.{refused, expand}
use Rattle.grammar.proofs.Starting.{start, start_word, start_folder, links_out, indexes_out, expression_out, type_out, atom_out, program_out, operand_out, total_back, total_out, links_back, indexes_back, group_back, each_back, list_back}

opened : {ts : List Token} {i : ℕ} {γ : List Wanted} → (s : Sort) (k : Kind) → kind_at ts i ≡ k → ((xs : List Token) (j : ℕ) (t : Tree) → Derives xs s i j t → Parses xs γ j → Parses xs (start s (kind_at xs i) ++ γ) i) → ((xs : List Token) → Parses xs (start s k ++ γ) i → Parses xs (some s ∷ γ) i) → Stands ts i (some s ∷ γ) → Stands ts i (start s k ++ γ)
opened {ts} {i} {γ} s k e out back h = expand h back (λ xs same p. subst (λ l. Parses xs (start s l ++ γ) i) (same ∙ e) (out xs p.0 p.1 p.2 p.3))

pub open_program : {ts : List Token} {i : ℕ} {γ : List Wanted} → Stands ts i (some programs ∷ γ) → Stands ts i (one Kind.Main ∷ one Kind.Open ∷ a_name ∷ one Kind.Colon ∷ some types ∷ one Kind.Close ∷ one Kind.Colon ∷ some types ∷ one Kind.Equal ∷ some expressions ∷ γ)
open_program {ts} {i} {γ} s = opened programs (kind_at ts i) refl (λ xs j t d h. program_out γ d h) (λ xs h. let a = h.1.1.1.1 in let b = a.3.1.1 in let c = b.3.1 in (c.0, _, by_program h.0 h.1.0 h.1.1.0.1 h.1.1.1.0 a.2 a.3.0 a.3.1.0 b.2 b.3.0 c.2, c.3)) s

pub open_int : {ts : List Token} {i : ℕ} {γ : List Wanted} → kind_at ts i ≡ Kind.Int → Stands ts i (some types ∷ γ) → Stands ts i (one Kind.Int ∷ γ)
open_int {γ = γ} e s = opened types Kind.Int e (λ xs j t d h. type_out γ d h) (λ xs h. (_, _, by_int h.0, h.1)) s

pub open_bool : {ts : List Token} {i : ℕ} {γ : List Wanted} → kind_at ts i ≡ Kind.Bool → Stands ts i (some types ∷ γ) → Stands ts i (one Kind.Bool ∷ γ)
open_bool {γ = γ} e s = opened types Kind.Bool e (λ xs j t d h. type_out γ d h) (λ xs h. (_, _, by_bool h.0, h.1)) s

pub open_both : {ts : List Token} {i : ℕ} {γ : List Wanted} → kind_at ts i ≡ Kind.Open → Stands ts i (some types ∷ γ) → Stands ts i (one Kind.Open ∷ some types ∷ one Kind.Comma ∷ some types ∷ one Kind.Close ∷ γ)
open_both {γ = γ} e s = opened types Kind.Open e (λ xs j t d h. type_out γ d h) (λ xs h. let a = h.1 in let b = a.3.1 in (_, _, by_both h.0 a.2 a.3.0 b.2 b.3.0, b.3.1)) s

pub open_many : {ts : List Token} {i : ℕ} {γ : List Wanted} → kind_at ts i ≡ Kind.SquareOpen → Stands ts i (some types ∷ γ) → Stands ts i (one Kind.SquareOpen ∷ some types ∷ one Kind.SquareClose ∷ γ)
open_many {γ = γ} e s = opened types Kind.SquareOpen e (λ xs j t d h. type_out γ d h) (λ xs h. let a = h.1 in (_, _, by_many h.0 a.2 a.3.0, a.3.1)) s

pub open_let : {ts : List Token} {i : ℕ} {γ : List Wanted} → kind_at ts i ≡ Kind.Let → Stands ts i (some expressions ∷ γ) → Stands ts i (one Kind.Let ∷ a_name ∷ one Kind.Equal ∷ some expressions ∷ one Kind.In ∷ some expressions ∷ γ)
open_let {γ = γ} e s = opened expressions Kind.Let e (λ xs j t d h. expression_out γ d h) (λ xs h. let a = h.1.1.1 in let b = a.3.1 in (b.0, _, by_let h.0 h.1.0.1 h.1.1.0 a.2 a.3.0 b.2, b.3)) s

pub open_if : {ts : List Token} {i : ℕ} {γ : List Wanted} → kind_at ts i ≡ Kind.If → Stands ts i (some expressions ∷ γ) → Stands ts i (one Kind.If ∷ some expressions ∷ one Kind.Then ∷ some expressions ∷ one Kind.Else ∷ some expressions ∷ γ)
open_if {γ = γ} e s = opened expressions Kind.If e (λ xs j t d h. expression_out γ d h) (λ xs h. let c = h.1 in let a = c.3.1 in let b = a.3.1 in (b.0, _, by_if h.0 c.2 c.3.0 a.2 a.3.0 b.2, b.3)) s

test_out : (γ : List Wanted) {xs : List Token} {i j : ℕ} {t : Tree} → (kind_at xs i ≡ Kind.Let → ⊥) → (kind_at xs i ≡ Kind.If → ⊥) → Derives xs expressions i j t → Parses xs γ j → Parses xs (some tests ∷ γ) i
test_out γ n m (by_let a _ _ _ _ _) r = absurd (n a)
test_out γ n m (by_if a _ _ _ _ _) r = absurd (m a)
test_out γ n m (by_test d) r = (_, _, d, r)

pub open_test : {ts : List Token} {i : ℕ} {γ : List Wanted} → (kind_at ts i ≡ Kind.Let → ⊥) → (kind_at ts i ≡ Kind.If → ⊥) → Stands ts i (some expressions ∷ γ) → Stands ts i (some tests ∷ γ)
open_test {γ = γ} n m s = expand s
    (λ xs h. (h.0, h.1, by_test h.2, h.3))
    (λ xs same h. test_out γ (λ e. n (sym same ∙ e)) (λ e. m (sym same ∙ e)) h.2 h.3)

pub open_total : {ts : List Token} {i : ℕ} {γ : List Wanted} → Stands ts i (some tests ∷ γ) → Stands ts i (some (chains sums) ∷ rest compared ∷ γ)
open_total {γ = γ} s = expand s
    (λ xs h. let u = total_back h.2 h.3.1 in (h.3.0, u.0, u.1, h.3.2))
    (λ xs same h. total_out γ h.2 h.3)

pub open_links : {ts : List Token} {i : ℕ} {γ : List Wanted} → (c : Chain) → Stands ts i (some (chains c) ∷ γ) → Stands ts i (some (linked c) ∷ rest (links c) ∷ γ)
open_links c s = expand s
    (λ xs h. let u = links_back (by_linked {c = c} h.2) h.3.1 in (h.3.0, u.0, u.1, h.3.2))
    (λ xs same h. let u = links_out h.2 no_link in (u.0, u.1, u.2, (h.0, u.3, h.3)))

pub open_indexes : {ts : List Token} {i : ℕ} {γ : List Wanted} → Stands ts i (some posts ∷ γ) → Stands ts i (some atoms ∷ rest indexes ∷ γ)
open_indexes s = expand s
    (λ xs h. let u = indexes_back (by_atom h.2) h.3.1 in (h.3.0, u.0, u.1, h.3.2))
    (λ xs same h. let u = indexes_out h.2 no_index in (u.0, u.1, u.2, (h.0, u.3, h.3)))

pub open_number : {ts : List Token} {i v : ℕ} {γ : List Wanted} → kind_at ts i ≡ Kind.Number v → Stands ts i (some atoms ∷ γ) → Stands ts i (one (Kind.Number v) ∷ γ)
open_number {v = v} {γ = γ} e s = opened atoms (Kind.Number v) e (λ xs j t d h. atom_out γ d h) (λ xs h. (_, _, by_number h.0, h.1)) s

pub open_true : {ts : List Token} {i : ℕ} {γ : List Wanted} → kind_at ts i ≡ Kind.True → Stands ts i (some atoms ∷ γ) → Stands ts i (one Kind.True ∷ γ)
open_true {γ = γ} e s = opened atoms Kind.True e (λ xs j t d h. atom_out γ d h) (λ xs h. (_, _, by_true h.0, h.1)) s

pub open_false : {ts : List Token} {i : ℕ} {γ : List Wanted} → kind_at ts i ≡ Kind.False → Stands ts i (some atoms ∷ γ) → Stands ts i (one Kind.False ∷ γ)
open_false {γ = γ} e s = opened atoms Kind.False e (λ xs j t d h. atom_out γ d h) (λ xs h. (_, _, by_false h.0, h.1)) s

pub open_name : {ts : List Token} {i : ℕ} {n : Name} {γ : List Wanted} → kind_at ts i ≡ Kind.Name n → Stands ts i (some atoms ∷ γ) → Stands ts i (one (Kind.Name n) ∷ γ)
open_name {n = n} {γ = γ} e s = opened atoms (Kind.Name n) e (λ xs j t d h. atom_out γ d h) (λ xs h. (_, _, by_name h.0, h.1)) s

pub open_group : {ts : List Token} {i : ℕ} {γ : List Wanted} → kind_at ts i ≡ Kind.Open → Stands ts i (some atoms ∷ γ) → Stands ts i (one Kind.Open ∷ some expressions ∷ rest closing ∷ γ)
open_group {γ = γ} e s = opened atoms Kind.Open e (λ xs j t d h. atom_out γ d h) (λ xs h. let a = h.1 in let u = group_back h.0 a.2 a.3.1 in (a.3.0, u.0, u.1, a.3.2)) s

pub open_list : {ts : List Token} {i : ℕ} {γ : List Wanted} → kind_at ts i ≡ Kind.SquareOpen → Stands ts i (some atoms ∷ γ) → Stands ts i (one Kind.SquareOpen ∷ some expressions ∷ rest items ∷ γ)
open_list {γ = γ} e s = opened atoms Kind.SquareOpen e (λ xs j t d h. atom_out γ d h) (λ xs h. let a = h.1 in let u = list_back h.0 a.2 a.3.1 in (a.3.0, u.0, u.1, a.3.2)) s

pub open_empty : {ts : List Token} {i : ℕ} {γ : List Wanted} → kind_at ts i ≡ Kind.Empty → Stands ts i (some atoms ∷ γ) → Stands ts i (one Kind.Empty ∷ one Kind.Open ∷ some types ∷ one Kind.Close ∷ γ)
open_empty {γ = γ} e s = opened atoms Kind.Empty e (λ xs j t d h. atom_out γ d h) (λ xs h. let a = h.1.1 in (_, _, by_empty h.0 h.1.0 a.2 a.3.0, a.3.1)) s

pub open_each : {ts : List Token} {i : ℕ} {γ : List Wanted} → kind_at ts i ≡ Kind.CurlyOpen → Stands ts i (some atoms ∷ γ) → Stands ts i (one Kind.CurlyOpen ∷ some expressions ∷ one Kind.Colon ∷ a_name ∷ one Kind.In ∷ some expressions ∷ rest filter ∷ γ)
open_each {γ = γ} e s = opened atoms Kind.CurlyOpen e (λ xs j t d h. atom_out γ d h) (λ xs h. let a = h.1 in let n = a.3.1 in let b = n.1.1 in let u = each_back h.0 a.2 a.3.0 n.0.1 n.1.0 b.2 b.3.1 in (b.3.0, u.0, u.1, b.3.2)) s

pub open_word : {ts : List Token} {i : ℕ} {γ : List Wanted} → (o : Unary) → kind_at ts i ≡ word o → Stands ts i (some atoms ∷ γ) → Stands ts i (one (word o) ∷ some operands ∷ γ)
open_word {ts} {i} {γ} o e s = subst (λ δ. Stands ts i (δ ++ γ)) (start_word o) (opened atoms (word o) e (λ xs j t d h. atom_out γ d h) (λ xs p. let h = subst (λ δ. Parses xs (δ ++ γ) i) (start_word o) p in let a = h.1 in (_, _, by_word o h.0 a.2, a.3)) s)

pub open_part : {ts : List Token} {i : ℕ} {γ : List Wanted} → kind_at ts i ≡ Kind.Part → Stands ts i (some atoms ∷ γ) → Stands ts i (one Kind.Part ∷ one Kind.Open ∷ some expressions ∷ one Kind.Comma ∷ some expressions ∷ one Kind.Close ∷ γ)
open_part {γ = γ} e s = opened atoms Kind.Part e (λ xs j t d h. atom_out γ d h) (λ xs h. let a = h.1.1 in let b = a.3.1 in (_, _, by_part h.0 h.1.0 a.2 a.3.0 b.2 b.3.0, b.3.1)) s

pub open_fold : {ts : List Token} {i : ℕ} {γ : List Wanted} → (f : Fold) → kind_at ts i ≡ folder f → Stands ts i (some atoms ∷ γ) → Stands ts i (one (folder f) ∷ a_joint ∷ some operands ∷ γ)
open_fold {ts} {i} {γ} f e s = subst (λ δ. Stands ts i (δ ++ γ)) (start_folder f) (opened atoms (folder f) e (λ xs j t d h. atom_out γ d h) (λ xs p. let h = subst (λ δ. Parses xs (δ ++ γ) i) (start_folder f) p in let o = h.1.0 in let a = h.1.1 in (_, _, by_fold f o.0 h.0 o.1 a.2, a.3)) s)

pub open_operand : {ts : List Token} {i : ℕ} {γ : List Wanted} → Stands ts i (some operands ∷ γ) → Stands ts i (one Kind.Open ∷ some expressions ∷ one Kind.Close ∷ γ)
open_operand {ts} {i} {γ} s = opened operands (kind_at ts i) refl (λ xs j t d h. operand_out γ d h) (λ xs h. let a = h.1 in (_, _, by_operand h.0 a.2 a.3.0, a.3.1)) s

-- where nothing of the kind begins
no_start : {xs : List Token} {i j : ℕ} {t : Tree} → ((v : ℕ) → kind_at xs i ≡ Kind.Number v → ⊥) → (kind_at xs i ≡ Kind.True → ⊥) → (kind_at xs i ≡ Kind.False → ⊥) → ((n : Name) → kind_at xs i ≡ Kind.Name n → ⊥) → (kind_at xs i ≡ Kind.Open → ⊥) → (kind_at xs i ≡ Kind.SquareOpen → ⊥) → (kind_at xs i ≡ Kind.Empty → ⊥) → (kind_at xs i ≡ Kind.CurlyOpen → ⊥) → ((o : Unary) → kind_at xs i ≡ word o → ⊥) → (kind_at xs i ≡ Kind.Part → ⊥) → ((f : Fold) → kind_at xs i ≡ folder f → ⊥) → Derives xs atoms i j t → ⊥
no_start a b c d e f g h k l m (by_number {v = v} x) = a v x
no_start a b c d e f g h k l m (by_true x) = b x
no_start a b c d e f g h k l m (by_false x) = c x
no_start a b c d e f g h k l m (by_name {n = n} x) = d n x
no_start a b c d e f g h k l m (by_group x _ _) = e x
no_start a b c d e f g h k l m (by_pair x _ _ _ _) = e x
no_start a b c d e f g h k l m (by_list x _ _) = f x
no_start a b c d e f g h k l m (by_empty x _ _ _) = g x
no_start a b c d e f g h k l m (by_each x _ _ _ _ _ _) = h x
no_start a b c d e f g h k l m (by_sieve x _ _ _ _ _ _ _ _) = h x
no_start a b c d e f g h k l m (by_word o x _) = k o x
no_start a b c d e f g h k l m (by_part x _ _ _ _ _) = l x
no_start a b c d e f g h k l m (by_fold p _ x _ _) = m p x

pub no_atom : {ts : List Token} {i : ℕ} {γ : List Wanted} {r : Refusal} → i < length ts → ((v : ℕ) → kind_at ts i ≡ Kind.Number v → ⊥) → (kind_at ts i ≡ Kind.True → ⊥) → (kind_at ts i ≡ Kind.False → ⊥) → ((n : Name) → kind_at ts i ≡ Kind.Name n → ⊥) → (kind_at ts i ≡ Kind.Open → ⊥) → (kind_at ts i ≡ Kind.SquareOpen → ⊥) → (kind_at ts i ≡ Kind.Empty → ⊥) → (kind_at ts i ≡ Kind.CurlyOpen → ⊥) → ((o : Unary) → kind_at ts i ≡ word o → ⊥) → (kind_at ts i ≡ Kind.Part → ⊥) → ((f : Fold) → kind_at ts i ≡ folder f → ⊥) → r ≡ refusal_at ts i → Stands ts i (some atoms ∷ γ) → Refuses ts r
no_atom lt a b c d e f g h k l m says s = refused s lt (λ xs same p. no_start (λ v x. a v (sym same ∙ x)) (λ x. b (sym same ∙ x)) (λ x. c (sym same ∙ x)) (λ n x. d n (sym same ∙ x)) (λ x. e (sym same ∙ x)) (λ x. f (sym same ∙ x)) (λ x. g (sym same ∙ x)) (λ x. h (sym same ∙ x)) (λ o x. k o (sym same ∙ x)) (λ x. l (sym same ∙ x)) (λ q x. m q (sym same ∙ x)) p.2) says

no_type_start : {xs : List Token} {i j : ℕ} {t : Tree} → (kind_at xs i ≡ Kind.Int → ⊥) → (kind_at xs i ≡ Kind.Bool → ⊥) → (kind_at xs i ≡ Kind.Open → ⊥) → (kind_at xs i ≡ Kind.SquareOpen → ⊥) → Derives xs types i j t → ⊥
no_type_start a b c d (by_int x) = a x
no_type_start a b c d (by_bool x) = b x
no_type_start a b c d (by_both x _ _ _ _) = c x
no_type_start a b c d (by_many x _ _) = d x

pub no_type : {ts : List Token} {i : ℕ} {γ : List Wanted} {r : Refusal} → i < length ts → (kind_at ts i ≡ Kind.Int → ⊥) → (kind_at ts i ≡ Kind.Bool → ⊥) → (kind_at ts i ≡ Kind.Open → ⊥) → (kind_at ts i ≡ Kind.SquareOpen → ⊥) → r ≡ refusal_at ts i → Stands ts i (some types ∷ γ) → Refuses ts r
no_type lt a b c d says s = refused s lt (λ xs same p. no_type_start (λ x. a (sym same ∙ x)) (λ x. b (sym same ∙ x)) (λ x. c (sym same ∙ x)) (λ x. d (sym same ∙ x)) p.2) says
