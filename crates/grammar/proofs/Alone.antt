-- A list of tokens has one tree at most.
use Rattle.std.proofs.Common.{◌≡◌, ℕ, ◌+◌, Bool, List, sym, refl, ap, subst}
use Rattle.tokens.specs.declared.kind.Kind.{Kind}
use Rattle.tokens.specs.declared.kind.Name.{Name}
use Rattle.tokens.specs.declared.kind.Token.{Token}
use Rattle.tokens.specs.Kinds.{kind_at, place_at}
use Rattle.grammar.specs.declared.occurrence.Infix.{Infix}
use Rattle.grammar.specs.declared.occurrence.Unary.{Unary}
use Rattle.grammar.specs.declared.occurrence.Operation.{Operation}
use Rattle.grammar.specs.Tree.{Fold, Tree, number, truth, variable, bind, choice, each, sieve, operate, apply, fold, index, group, pair, part, empty, list, first, more, both, many, program}
use Rattle.grammar.specs.Grammar.{sign, word, joint, folder, Compares, Chain, sums, products, Joins, Sort, programs, types, expressions, tests, chains, posts, atoms, operands, elements, linked, Derives, by_program, by_int, by_bool, by_both, by_many, by_let, by_if, by_test, by_comparison, by_total, by_link, by_linked, by_index, by_atom, by_number, by_true, by_false, by_name, by_group, by_pair, by_list, by_empty, by_each, by_sieve, by_word, by_part, by_fold, by_operand, by_first, by_more, Program}
use Rattle.grammar.proofs.Wanting.{apart}
use Rattle.grammar.proofs.Signs.{compares_extends, compares_shut, joins_extends, joins_shut}
use Rattle.grammar.proofs.Follow.{extended, shut_by, lower, total_lower, shut_end}
use Rattle.grammar.proofs.Starting.{begins_test}
use Rattle.grammar.proofs.Shapes.{same_sign, same_word, same-joint, same-folder, Both, Many, Bool-type, Int-type, TypeShape, type_shape, Group, alone, with_one, Listing, Each, Empty, Part, Folds, Word, Named, Numbered, Truth, made, AtomShape, word_shape, fold_shape, atom_shape}
use Rattle.grammar.proofs.Growing.{Agrees, Shut, Only, Grows, more as grown, Loop, Grown, grown_more, grown_first, grown_only}

-- the parts that are added to a chain, to a post, to elements

data Link (ts : List Token) (c : Chain) : ℕ → Tree → ℕ → Tree → Type 0 where
  linking : {j k : ℕ} {o : Infix} {t b : Tree} → Joins c o → kind_at ts j ≡ sign o → Derives ts (linked c) (j + 1) k b → Link ts c j t k (operate (place_at ts j) o t b)

data Index (ts : List Token) : ℕ → Tree → ℕ → Tree → Type 0 where
  indexing : {j k : ℕ} {t b : Tree} → kind_at ts j ≡ Kind.SquareOpen → Derives ts expressions (j + 1) k b → kind_at ts k ≡ Kind.SquareClose → Index ts j t (k + 1) (index (place_at ts j) t b)

data Item (ts : List Token) : ℕ → Tree → ℕ → Tree → Type 0 where
  listing : {j k : ℕ} {t b : Tree} → kind_at ts j ≡ Kind.Comma → Derives ts expressions (j + 1) k b → Item ts j t k (more t b)

link_never : {ts : List Token} {c : Chain} {j k : ℕ} {t v : Tree} → Link ts c j t k v → Shut ts (chains c) j → ⊥
link_never {c = c} (linking q e _) st = extended (chains c) e (joins_extends q) st

link_adds : {ts : List Token} {c : Chain} {j k : ℕ} {t v : Tree} → Link ts c j t k v → Shut ts (linked c) j
link_adds {c = c} (linking q e _) = shut_by (linked c) e (joins_shut q)

link_out : {ts : List Token} {c : Chain} {i j k : ℕ} {t u : Tree} → Derives ts (chains c) i j t → Grows (Link ts c) j t k u → (m : ℕ) × (v : Tree) × Derives ts (linked c) i m v × Grows (Link ts c) m v k u
link_out (by_link a q e b) g = link_out a (grown (linking q e b) g)
link_out (by_linked a) g = (_, _, a, g)

link_loop : (ts : List Token) (c : Chain) → Loop ts (chains c) (linked c) (λ t. t) (Link ts c) (Shut ts (chains c))
link_loop ts c = record { never = link_never; stops = λ j st. lower c (kind_at ts j) st; adds = link_adds; out = link_out }

index_never : {ts : List Token} {j k : ℕ} {t v : Tree} → Index ts j t k v → Shut ts posts j → ⊥
index_never (indexing e _ _) st = extended posts e refl st

index_adds : {ts : List Token} {j k : ℕ} {t v : Tree} → Index ts j t k v → Shut ts atoms j
index_adds (indexing _ _ _) = refl

index_out : {ts : List Token} {i j k : ℕ} {t u : Tree} → Derives ts posts i j t → Grows (Index ts) j t k u → (m : ℕ) × (v : Tree) × Derives ts atoms i m v × Grows (Index ts) m v k u
index_out (by_index a e b f) g = index_out a (grown (indexing e b f) g)
index_out (by_atom a) g = (_, _, a, g)

index_loop : (ts : List Token) → Loop ts posts atoms (λ t. t) (Index ts) (Shut ts posts)
index_loop ts = record { never = index_never; stops = λ j st. refl; adds = index_adds; out = index_out }

abbrev Bracket : List Token → ℕ → Type 0
Bracket ts j = kind_at ts j ≡ Kind.SquareClose

item_never : {ts : List Token} {j k : ℕ} {t v : Tree} → Item ts j t k v → Bracket ts j → ⊥
item_never (listing e _) st = apart e st refl

item_adds : {ts : List Token} {j k : ℕ} {t v : Tree} → Item ts j t k v → Shut ts expressions j
item_adds (listing e _) = shut_by expressions e refl

item_out : {ts : List Token} {i j k : ℕ} {t u : Tree} → Derives ts elements i j t → Grows (Item ts) j t k u → (m : ℕ) × (v : Tree) × Derives ts expressions i m v × Grows (Item ts) m (first v) k u
item_out (by_first a) g = (_, _, a, g)
item_out (by_more a e b) g = item_out a (grown (listing e b) g)

item_loop : (ts : List Token) → Loop ts elements expressions first (Item ts) (Bracket ts)
item_loop ts = record { never = item_never; stops = λ j st. shut_by expressions st refl; adds = item_adds; out = item_out }

-- what is shown of each sort
abbrev Goal : List Token → Sort → ℕ → ℕ → Tree → Type 0
Goal ts programs i j t = Only ts programs i j t
Goal ts types i j t = Only ts types i j t
Goal ts expressions i j t = Only ts expressions i j t
Goal ts tests i j t = Only ts tests i j t
Goal ts (chains c) i j t = Grown ts (chains c) (linked c) (Link ts c) (Shut ts (chains c)) i j t
Goal ts posts i j t = Grown ts posts atoms (Index ts) (Shut ts posts) i j t
Goal ts atoms i j t = Only ts atoms i j t
Goal ts operands i j t = Only ts operands i j t
Goal ts elements i j t = Grown ts elements expressions (Item ts) (Bracket ts) i j t

chain_only : {ts : List Token} {c : Chain} {i j : ℕ} {t : Tree} → Goal ts (chains c) i j t → Only ts (chains c) i j t
chain_only {ts} {c} g shut k u d st = grown_only (link_loop ts c) g shut k u d st

post_only : {ts : List Token} {i j : ℕ} {t : Tree} → Goal ts posts i j t → Only ts posts i j t
post_only {ts} g shut k u d st = grown_only (index_loop ts) g shut k u d st

linked-only : {ts : List Token} {i j : ℕ} {t : Tree} → (c : Chain) → Goal ts (linked c) i j t → Only ts (linked c) i j t
linked-only sums g = chain_only g
linked-only products g = post_only g

next : {i j : ℕ} → i ≡ j → i + 1 ≡ j + 1
next e = ap (λ n. n + 1) e

-- a phrase that begins where another one ended
from : {ts : List Token} {s : Sort} {i j k : ℕ} {t : Tree} → i ≡ j → Derives ts s (j + 1) k t → Derives ts s (i + 1) k t
from {ts} {s} {k = k} {t = t} e d = subst (λ n. Derives ts s (n + 1) k t) (sym e) d

-- a token that stands where another one does
at : (ts : List Token) {i j : ℕ} {k : Kind} → i ≡ j → kind_at ts j ≡ k → kind_at ts i ≡ k
at ts {k = k} e h = subst (λ n. kind_at ts n ≡ k) (sym e) h

same_name : {k : Kind} {m n : Name} → k ≡ Kind.Name m → k ≡ Kind.Name n → m ≡ n
same_name e f = cc

-- types

both_case : {ts : List Token} {i j k l : ℕ} {a b t : Tree} → Only ts types (i + 1) j a → Only ts types (j + 1) k b → Both ts i l t → Agrees (k + 1) (both (place_at ts i) a b) l t
both_case f g (made d _ e) =
    let x = f refl _ _ d refl in
    let y = g refl _ _ (from x.ends e) refl in
    record { ends = next y.ends; trees = cc (x.trees, y.trees) }

many_case : {ts : List Token} {i j l : ℕ} {a t : Tree} → Only ts types (i + 1) j a → Many ts i l t → Agrees (j + 1) (many (place_at ts i) a) l t
many_case f (made d) = let x = f refl _ _ d refl in record { ends = next x.ends; trees = cc x.trees }

int_case : {ts : List Token} {i l : ℕ} {t : Tree} → Int-type ts i l t → Agrees (i + 1) (Tree.int (place_at ts i)) l t
int_case made = record { ends = refl; trees = refl }

bool_case : {ts : List Token} {i l : ℕ} {t : Tree} → Bool-type ts i l t → Agrees (i + 1) (Tree.bool (place_at ts i)) l t
bool_case made = record { ends = refl; trees = refl }

-- expressions

let_case : {ts : List Token} {i m j : ℕ} {n : Name} {a b : Tree} → kind_at ts i ≡ Kind.Let → kind_at ts (i + 1) ≡ Kind.Name n → Only ts expressions (i + 1 + 1 + 1) m a → kind_at ts m ≡ Kind.In → Only ts expressions (m + 1) j b → Shut ts expressions j → (l : ℕ) (t : Tree) → Derives ts expressions i l t → Shut ts expressions l → Agrees j (bind (place_at ts i) n a b) l t
let_case e₁ e₂ f e₃ g shut l t (by_let _ n _ d c h) st =
    let x = f (shut_by expressions e₃ refl) _ _ d (shut_by expressions c refl) in
    let y = g shut _ _ (from x.ends h) st in
    record { ends = y.ends; trees = cc (same_name e₂ n, x.trees, y.trees) }
let_case e₁ e₂ f e₃ g shut l t (by_if e _ _ _ _ _) st = absurd (apart e₁ e refl)
let_case e₁ e₂ f e₃ g shut l t (by_test d) st = absurd ((begins_test d).0 e₁)

if_case : {ts : List Token} {i m n j : ℕ} {c a b : Tree} → kind_at ts i ≡ Kind.If → Only ts expressions (i + 1) m c → kind_at ts m ≡ Kind.Then → Only ts expressions (m + 1) n a → kind_at ts n ≡ Kind.Else → Only ts expressions (n + 1) j b → Shut ts expressions j → (l : ℕ) (t : Tree) → Derives ts expressions i l t → Shut ts expressions l → Agrees j (choice (place_at ts i) c a b) l t
if_case e₁ f e₂ g e₃ h shut l t (by_let e _ _ _ _ _) st = absurd (apart e₁ e refl)
if_case e₁ f e₂ g e₃ h shut l t (by_if _ c d₂ a d₃ b) st =
    let x = f (shut_by expressions e₂ refl) _ _ c (shut_by expressions d₂ refl) in
    let y = g (shut_by expressions e₃ refl) _ _ (from x.ends a) (shut_by expressions d₃ refl) in
    let z = h shut _ _ (from y.ends b) st in
    record { ends = z.ends; trees = cc (x.trees, y.trees, z.trees) }
if_case e₁ f e₂ g e₃ h shut l t (by_test d) st = absurd ((begins_test d).1 e₁)

test_case : {ts : List Token} {i j : ℕ} {a : Tree} → Derives ts tests i j a → Only ts tests i j a → Shut ts expressions j → (l : ℕ) (t : Tree) → Derives ts expressions i l t → Shut ts expressions l → Agrees j a l t
test_case d f shut l t (by_let e _ _ _ _ _) st = absurd ((begins_test d).0 e)
test_case d f shut l t (by_if e _ _ _ _ _) st = absurd ((begins_test d).1 e)
test_case d f shut l t (by_test d') st = f shut l t d' st

compare_case : {ts : List Token} {i m j : ℕ} {o : Infix} {a b : Tree} → Only ts (chains sums) i m a → Compares o → kind_at ts m ≡ sign o → Only ts (chains sums) (m + 1) j b → Shut ts tests j → (l : ℕ) (t : Tree) → Derives ts tests i l t → Shut ts tests l → Agrees j (operate (place_at ts m) o a b) l t
compare_case {ts} {m = m} {j = j} {o = o} f c e g shut l t (by_comparison {j = n} {o = p} a q h b) st =
    let x = f (shut_by (chains sums) e (compares_shut c)) _ _ a (shut_by (chains sums) h (compares_shut q)) in
    let y = g (total_lower (kind_at ts j) shut) _ _ (from x.ends b) (total_lower (kind_at ts l) st) in
    let one = same_sign o p e (at ts x.ends h) in
    let place : place_at ts m ≡ place_at ts n = ap (λ i. place_at ts i) x.ends in
    record { ends = y.ends; trees = cc (one, place, x.trees, y.trees) }
compare_case {ts} f c e g shut l t (by_total a) st =
    let x = f (shut_by (chains sums) e (compares_shut c)) _ _ a (total_lower (kind_at ts l) st) in
    absurd (extended tests (at ts (sym x.ends) e) (compares_extends c) st)

total_case : {ts : List Token} {i j : ℕ} {a : Tree} → Only ts (chains sums) i j a → Shut ts tests j → (l : ℕ) (t : Tree) → Derives ts tests i l t → Shut ts tests l → Agrees j a l t
total_case {ts} {j = j} f shut l t (by_comparison a q h b) st =
    let x = f (total_lower (kind_at ts j) shut) _ _ a (shut_by (chains sums) h (compares_shut q)) in
    absurd (extended tests (at ts x.ends h) (compares_extends q) shut)
total_case {ts} {j = j} f shut l t (by_total a) st = f (total_lower (kind_at ts j) shut) l t a (total_lower (kind_at ts l) st)

link_case : {ts : List Token} {c : Chain} {m j n : ℕ} {o : Infix} {a b x : Tree} → Only ts (linked c) (m + 1) j b → kind_at ts m ≡ sign o → Shut ts (linked c) j → Link ts c m a n x → Shut ts (linked c) n → Agrees j (operate (place_at ts m) o a b) n x
link_case {o = o} f e shut (linking {o = p} _ h b) st =
    let y = f shut _ _ b st in
    record { ends = y.ends; trees = cc (same_sign o p e h, y.trees) }

index_case : {ts : List Token} {m j n : ℕ} {a b x : Tree} → Only ts expressions (m + 1) j b → kind_at ts j ≡ Kind.SquareClose → Index ts m a n x → Agrees (j + 1) (index (place_at ts m) a b) n x
index_case f e (indexing _ b h) =
    let y = f (shut_by expressions e refl) _ _ b (shut_by expressions h refl) in
    record { ends = next y.ends; trees = cc y.trees }

item_case : {ts : List Token} {m j n : ℕ} {a b x : Tree} → Only ts expressions (m + 1) j b → Shut ts expressions j → Item ts m a n x → Shut ts expressions n → Agrees j (more a b) n x
item_case f shut (listing _ b) st = let y = f shut _ _ b st in record { ends = y.ends; trees = cc y.trees }

-- atoms

group_case : {ts : List Token} {i j l : ℕ} {a t : Tree} → Only ts expressions (i + 1) j a → kind_at ts j ≡ Kind.Close → Group ts i l t → Agrees (j + 1) (group (place_at ts i) a) l t
group_case f e (alone a h) =
    let x = f (shut_by expressions e refl) _ _ a (shut_by expressions h refl) in
    record { ends = next x.ends; trees = cc x.trees }
group_case {ts} f e (with_one a h _ _) =
    let x = f (shut_by expressions e refl) _ _ a (shut_by expressions h refl) in
    absurd (apart e (at ts x.ends h) refl)

pair_case : {ts : List Token} {i j k l : ℕ} {a b t : Tree} → Only ts expressions (i + 1) j a → kind_at ts j ≡ Kind.Comma → Only ts expressions (j + 1) k b → kind_at ts k ≡ Kind.Close → Group ts i l t → Agrees (k + 1) (pair (place_at ts i) a b) l t
pair_case {ts} f e g e₂ (alone a h) =
    let x = f (shut_by expressions e refl) _ _ a (shut_by expressions h refl) in
    absurd (apart e (at ts x.ends h) refl)
pair_case f e g e₂ (with_one a h b h₂) =
    let x = f (shut_by expressions e refl) _ _ a (shut_by expressions h refl) in
    let y = g (shut_by expressions e₂ refl) _ _ (from x.ends b) (shut_by expressions h₂ refl) in
    record { ends = next y.ends; trees = cc (x.trees, y.trees) }

list_case : {ts : List Token} {i j l : ℕ} {a t : Tree} → Goal ts elements (i + 1) j a → kind_at ts j ≡ Kind.SquareClose → Listing ts i l t → Agrees (j + 1) (list (place_at ts i) a) l t
list_case {ts} f e (made a h) = let x = grown_only (item_loop ts) f e _ _ a h in record { ends = next x.ends; trees = cc x.trees }

-- the two parts of a comprehension before its end
heads : {ts : List Token} (i : ℕ) {j k j' k' : ℕ} {n n' : Name} {b s b' s' : Tree} → Only ts expressions (i + 1) j b → kind_at ts j ≡ Kind.Colon → kind_at ts (j + 1) ≡ Kind.Name n → Only ts expressions (j + 1 + 1 + 1) k s → Shut ts expressions k → Derives ts expressions (i + 1) j' b' → kind_at ts j' ≡ Kind.Colon → kind_at ts (j' + 1) ≡ Kind.Name n' → Derives ts expressions (j' + 1 + 1 + 1) k' s' → Shut ts expressions k' → (b ≡ b') × (n ≡ n') × Agrees k s k' s'
heads {ts} i {k' = k'} {s' = s'} f e e₂ g shut b c c₂ s st =
    let x = f (shut_by expressions e refl) _ _ b (shut_by expressions c refl) in
    (x.trees, same_name e₂ (at ts (next x.ends) c₂), g shut _ _ (subst (λ n. Derives ts expressions (n + 1 + 1 + 1) k' s') (sym x.ends) s) st)

each_case : {ts : List Token} {i j k l : ℕ} {n : Name} {b s t : Tree} → Only ts expressions (i + 1) j b → kind_at ts j ≡ Kind.Colon → kind_at ts (j + 1) ≡ Kind.Name n → Only ts expressions (j + 1 + 1 + 1) k s → kind_at ts k ≡ Kind.CurlyClose → Each ts i l t → Agrees (k + 1) (each (place_at ts i) n b s) l t
each_case {i = i} f e e₂ g e₃ (alone b c c₂ s h) =
    let x = heads i f e e₂ g (shut_by expressions e₃ refl) b c c₂ s (shut_by expressions h refl) in
    record { ends = next x.2.ends; trees = cc (x.0, x.1, x.2.trees) }
each_case {ts} {i} f e e₂ g e₃ (with_one b c c₂ s h _ _) =
    let x = heads i f e e₂ g (shut_by expressions e₃ refl) b c c₂ s (shut_by expressions h refl) in
    absurd (apart e₃ (at ts x.2.ends h) refl)

sieve_case : {ts : List Token} {i j k m l : ℕ} {n : Name} {b s u t : Tree} → Only ts expressions (i + 1) j b → kind_at ts j ≡ Kind.Colon → kind_at ts (j + 1) ≡ Kind.Name n → Only ts expressions (j + 1 + 1 + 1) k s → kind_at ts k ≡ Kind.Bar → Only ts expressions (k + 1) m u → kind_at ts m ≡ Kind.CurlyClose → Each ts i l t → Agrees (m + 1) (sieve (place_at ts i) n b s u) l t
sieve_case {ts} {i} f e e₂ g e₃ h e₄ (alone b c c₂ s d) =
    let x = heads i f e e₂ g (shut_by expressions e₃ refl) b c c₂ s (shut_by expressions d refl) in
    absurd (apart e₃ (at ts x.2.ends d) refl)
sieve_case {i = i} f e e₂ g e₃ h e₄ (with_one b c c₂ s d u d₂) =
    let x = heads i f e e₂ g (shut_by expressions e₃ refl) b c c₂ s (shut_by expressions d refl) in
    let y = h (shut_by expressions e₄ refl) _ _ (from x.2.ends u) (shut_by expressions d₂ refl) in
    record { ends = next y.ends; trees = cc (x.0, x.1, x.2.trees, y.trees) }

empty_case : {ts : List Token} {i j l : ℕ} {a t : Tree} → Only ts types (i + 1 + 1) j a → Empty ts i l t → Agrees (j + 1) (empty (place_at ts i) a) l t
empty_case f (made a) = let x = f refl _ _ a refl in record { ends = next x.ends; trees = cc x.trees }

part_case : {ts : List Token} {i j k l : ℕ} {a b t : Tree} → Only ts expressions (i + 1 + 1) j a → kind_at ts j ≡ Kind.Comma → Only ts expressions (j + 1) k b → kind_at ts k ≡ Kind.Close → Part ts i l t → Agrees (k + 1) (part (place_at ts i) a b) l t
part_case f e g e₂ (made a h b h₂) =
    let x = f (shut_by expressions e refl) _ _ a (shut_by expressions h refl) in
    let y = g (shut_by expressions e₂ refl) _ _ (from x.ends b) (shut_by expressions h₂ refl) in
    record { ends = next y.ends; trees = cc (x.trees, y.trees) }

word_case : {ts : List Token} {i j l : ℕ} {a t : Tree} → (o : Unary) → kind_at ts i ≡ word o → Only ts operands (i + 1) j a → Word ts i l t → Agrees j (apply (place_at ts i) o a) l t
word_case o e f (made p h a) = let x = f refl _ _ a refl in record { ends = x.ends; trees = cc (same_word o p e h, x.trees) }

fold_case : {ts : List Token} {i j l : ℕ} {a t : Tree} → (r : Fold) (o : Operation) → kind_at ts i ≡ folder r → kind_at ts (i + 1) ≡ joint o → Only ts operands (i + 1 + 1) j a → Folds ts i l t → Agrees j (fold (place_at ts i) r o a) l t
fold_case r o e e₂ f (made q p h h₂ a) = let x = f refl _ _ a refl in record { ends = x.ends; trees = cc (same-folder r q e h, same-joint o p e₂ h₂, x.trees) }

named_case : {ts : List Token} {i l : ℕ} {n : Name} {t : Tree} → kind_at ts i ≡ Kind.Name n → Named ts i l t → Agrees (i + 1) (variable (place_at ts i) n) l t
named_case e (made h) = record { ends = refl; trees = cc (same_name e h) }

number_case : {ts : List Token} {i l v : ℕ} {t : Tree} → kind_at ts i ≡ Kind.Number v → Numbered ts i l t → Agrees (i + 1) (number (place_at ts i) v) l t
number_case e (made h) = record { ends = refl; trees = cc }

truth_case : {b : Bool} {ts : List Token} {i l : ℕ} {t : Tree} → Truth b ts i l t → Agrees (i + 1) (truth (place_at ts i) b) l t
truth_case made = record { ends = refl; trees = refl }

operand_case : {ts : List Token} {i j : ℕ} {a : Tree} → Only ts expressions (i + 1) j a → kind_at ts j ≡ Kind.Close → (l : ℕ) (t : Tree) → Derives ts operands i l t → Agrees (j + 1) a l t
operand_case f e l t (by_operand _ a h) = let x = f (shut_by expressions e refl) _ _ a (shut_by expressions h refl) in record { ends = next x.ends; trees = x.trees }

program_case : {ts : List Token} {i j k l : ℕ} {n : Name} {a b e : Tree} → kind_at ts (i + 1 + 1) ≡ Kind.Name n → Only ts types (i + 1 + 1 + 1 + 1) j a → Only ts types (j + 1 + 1) k b → Only ts expressions (k + 1) l e → Shut ts expressions l → (m : ℕ) (t : Tree) → Derives ts programs i m t → Shut ts expressions m → Agrees l (program (place_at ts (i + 1 + 1 + 1 + 1)) n (place_at ts (j + 1 + 1)) a b e) m t
program_case {ts} e f g h shut m t (by_program {j = j'} {k = k'} {b = b'} _ _ c _ a _ _ b _ d) st =
    let x = f refl _ _ a refl in
    let y = g refl _ _ (subst (λ n. Derives ts types (n + 1 + 1) k' b') (sym x.ends) b) refl in
    let z = h shut _ _ (from y.ends d) st in
    let place = ap (λ n. place_at ts (n + 1 + 1)) x.ends in
    record { ends = z.ends; trees = cc (same_name e c, place, x.trees, y.trees, z.trees) }

-- a type or an atom by its shape
by_type : {ts : List Token} {i j : ℕ} {t : Tree} → (k : Kind) → kind_at ts i ≡ k → ((l : ℕ) (u : Tree) → TypeShape ts i l u k → Agrees j t l u) → Only ts types i j t
by_type {ts} {i} k e f shut l u d st = f l u (subst (TypeShape ts i l u) e (type_shape d))

by_shape : {ts : List Token} {i j : ℕ} {t : Tree} → (k : Kind) → kind_at ts i ≡ k → ((l : ℕ) (u : Tree) → AtomShape ts i l u k → Agrees j t l u) → Only ts atoms i j t
by_shape {ts} {i} k e f shut l u d st = f l u (subst (AtomShape ts i l u) e (atom_shape d))

unique : {ts : List Token} {s : Sort} {i j : ℕ} {t : Tree} → Derives ts s i j t → Goal ts s i j t
unique (by_program _ _ n _ a _ _ b _ d) = program_case n (unique a) (unique b) (unique d)
unique (by_int e) = by_type Kind.Int e (λ l u h. int_case h)
unique (by_bool e) = by_type Kind.Bool e (λ l u h. bool_case h)
unique (by_both e a _ b _) = by_type Kind.Open e (λ l u h. both_case (unique a) (unique b) h)
unique (by_many e a _) = by_type Kind.SquareOpen e (λ l u h. many_case (unique a) h)
unique (by_let e n _ a f b) = let_case e n (unique a) f (unique b)
unique (by_if e c f a g b) = if_case e (unique c) f (unique a) g (unique b)
unique (by_test d) = test_case d (unique d)
unique (by_comparison a q e b) = compare_case (chain_only (unique a)) q e (chain_only (unique b))
unique (by_total a) = total_case (chain_only (unique a))
unique {ts} (by_link {c = c} a q e b) = grown_more (link_loop ts c) (unique a) (linking q e b) (λ n x h st shut. link_case (linked-only c (unique b)) e shut h st)
unique {ts} (by_linked {c = c} a) = grown_first (link_loop ts c) (linked-only c (unique a)) (λ m v e. e)
unique {ts} (by_index a e b f) = grown_more (index_loop ts) (unique a) (indexing e b f) (λ n x h st shut. index_case (unique b) f h)
unique {ts} (by_atom a) = grown_first (index_loop ts) (unique a) (λ m v e. e)
unique (by_number {v = v} e) = by_shape (Kind.Number v) e (λ l u h. number_case e h)
unique (by_true e) = by_shape Kind.True e (λ l u h. truth_case h)
unique (by_false e) = by_shape Kind.False e (λ l u h. truth_case h)
unique (by_name {n = n} e) = by_shape (Kind.Name n) e (λ l u h. named_case e h)
unique (by_group e a f) = by_shape Kind.Open e (λ l u h. group_case (unique a) f h)
unique (by_pair e a f b g) = by_shape Kind.Open e (λ l u h. pair_case (unique a) f (unique b) g h)
unique (by_list e a f) = by_shape Kind.SquareOpen e (λ l u h. list_case (unique a) f h)
unique (by_empty e _ a _) = by_shape Kind.Empty e (λ l u h. empty_case (unique a) h)
unique (by_each e b f n _ s g) = by_shape Kind.CurlyOpen e (λ l u h. each_case (unique b) f n (unique s) g h)
unique (by_sieve e b f n _ s g u k) = by_shape Kind.CurlyOpen e (λ l v h. sieve_case (unique b) f n (unique s) g (unique u) k h)
unique {ts} {i = i} (by_word o e a) = by_shape (word o) e (λ l u h. word_case o e (unique a) (subst (λ F. F) (word_shape o ts i l u) h))
unique (by_part e _ a f b g) = by_shape Kind.Part e (λ l u h. part_case (unique a) f (unique b) g h)
unique {ts} {i = i} (by_fold r o e f a) = by_shape (folder r) e (λ l u h. fold_case r o e f (unique a) (subst (λ F. F) (fold_shape r ts i l u) h))
unique (by_operand _ a f) = λ shut l t d st. operand_case (unique a) f l t d
unique {ts} (by_first a) = grown_first (item_loop ts) (unique a) (λ m v e. record { ends = e.ends; trees = ap first e.trees })
unique {ts} (by_more a e b) = grown_more (item_loop ts) (unique a) (listing e b) (λ n x h st shut. item_case (unique b) shut h st)

-- two programs that are one list of tokens have one tree
pub one_tree : {ts : List Token} → (p q : Program ts) → p.tree ≡ q.tree
one_tree p q = (unique p.derives (shut_by programs p.ends (shut_end programs)) q.upto q.tree q.derives (shut_by programs q.ends (shut_end programs))).trees
