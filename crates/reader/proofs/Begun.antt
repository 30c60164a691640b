-- How the phrases begin, and how they go on, step by step.
use Rattle.std.proofs.Common.{◌≡◌, ℕ, ◌+◌, List, [], ◌∷◌, ◌++◌, sym, subst}
use Rattle.tokens.specs.declared.kind.Kind.{Kind}
use Rattle.tokens.specs.Kinds.{kind_at, place_at}
use Rattle.grammar.specs.declared.occurrence.Infix.{Infix}
use Rattle.grammar.specs.declared.occurrence.Unary.{Unary}
use Rattle.grammar.specs.declared.occurrence.Occurrence.{Occurrence}
use Rattle.grammar.specs.Tree.{Fold}
use Rattle.grammar.specs.Grammar.{sign, word, folder, Compares, Chain, sums, Joins, Sort, programs, types, expressions, tests, chains, posts, atoms, operands, linked}
use Rattle.grammar.specs.Law.{Wanted, one, a_name, a_joint, some, rest, compared, links, indexes, items, closing, filter, Stands}
use Rattle.grammar.proofs.Opening.{open_program, open_both, open_many, open_let, open_if, open_total, open_links, open_indexes, open_group, open_list, open_empty, open_each, open_word, open_part, open_fold, open_operand}
use Rattle.grammar.proofs.Going.{more_test, no_more_test, more_link, no_more_link, more_index, no_more_index, more_item, no_more_item, a_pair, no_pair, filtered, unfiltered}
use Rattle.reader.specs.declared.parser.Parser.{Parser}
use Rattle.reader.specs.Steps.{At, Here, Kept, Took, Way, Into}
use Rattle.reader.proofs.Ways.{start, turn_to, kind_on, take_on, same_on}

-- an `accept` that answered no
abbrev pub Without : Kind → Parser → Parser → Type 0
Without k q q' = (q' ≡ q) × (At q ≡ k → ⊥)

-- the token at hand, and its place, seen from an earlier state
pub at_on : {p q : Parser} {k : Kind} → Kept p q → At q ≡ k → kind_at p.tokens.now q.at ≡ k
at_on {q = q} {k = k} a e = subst (λ x. kind_at x.now q.at ≡ k) a.tokens e

pub here_on : {m : ℕ} {p q : Parser} → Kept p q → m ≡ Here q → m ≡ place_at p.tokens.now q.at
here_on {m = m} {q = q} a e = subst (λ x. m ≡ place_at x.now q.at) a.tokens e

pub took_as : {p q : Parser} {k : Kind} {xs : List Occurrence} → At p ≡ k → Took (At p) xs p q → Took k xs p q
took_as {p} {q} {xs = xs} e t = subst (λ x. Took x xs p q) e t

began : {s : Sort} {k : Kind} {ws : List Wanted} {p q : Parser} → At p ≡ k → ((γ : List Wanted) → Stands p.tokens.now p.at (some s ∷ γ) → Stands p.tokens.now p.at (one k ∷ (ws ++ γ))) → Took (At p) [] p q → Into s ws 1 [] p q
began e opens t = take_on (turn_to start (λ γ free. opens γ)) (took_as e t)

pub program_way : {p : Parser} → Into programs (one Kind.Main ∷ one Kind.Open ∷ a_name ∷ one Kind.Colon ∷ some types ∷ one Kind.Close ∷ one Kind.Colon ∷ some types ∷ one Kind.Equal ∷ some expressions ∷ []) 0 [] p p
program_way = turn_to start (λ γ free. open_program)

pub both_way : {p q : Parser} → At p ≡ Kind.Open → Took (At p) [] p q → Into types (some types ∷ one Kind.Comma ∷ some types ∷ one Kind.Close ∷ []) 1 [] p q
both_way e t = began e (λ γ. open_both e) t

pub many_way : {p q : Parser} → At p ≡ Kind.SquareOpen → Took (At p) [] p q → Into types (some types ∷ one Kind.SquareClose ∷ []) 1 [] p q
many_way e t = began e (λ γ. open_many e) t

pub let_way : {p q : Parser} → At p ≡ Kind.Let → Took (At p) [] p q → Into expressions (a_name ∷ one Kind.Equal ∷ some expressions ∷ one Kind.In ∷ some expressions ∷ []) 1 [] p q
let_way e t = began e (λ γ. open_let e) t

pub if_way : {p q : Parser} → At p ≡ Kind.If → Took (At p) [] p q → Into expressions (some expressions ∷ one Kind.Then ∷ some expressions ∷ one Kind.Else ∷ some expressions ∷ []) 1 [] p q
if_way e t = began e (λ γ. open_if e) t

pub test_way : {p : Parser} → Into tests (some (chains sums) ∷ rest compared ∷ []) 0 [] p p
test_way = turn_to start (λ γ free. open_total)

pub chain_way : {p : Parser} → (c : Chain) → Into (chains c) (some (linked c) ∷ rest (links c) ∷ []) 0 [] p p
chain_way c = turn_to start (λ γ free. open_links c)

pub post_way : {p : Parser} → Into posts (some atoms ∷ rest indexes ∷ []) 0 [] p p
post_way = turn_to start (λ γ free. open_indexes)

pub group_way : {p q : Parser} → At p ≡ Kind.Open → Took (At p) [] p q → Into atoms (some expressions ∷ rest closing ∷ []) 1 [] p q
group_way e t = began e (λ γ. open_group e) t

pub list_way : {p q : Parser} → At p ≡ Kind.SquareOpen → Took (At p) [] p q → Into atoms (some expressions ∷ rest items ∷ []) 1 [] p q
list_way e t = began e (λ γ. open_list e) t

pub empty_way : {p q : Parser} → At p ≡ Kind.Empty → Took (At p) [] p q → Into atoms (one Kind.Open ∷ some types ∷ one Kind.Close ∷ []) 1 [] p q
empty_way e t = began e (λ γ. open_empty e) t

pub each_way : {p q : Parser} → At p ≡ Kind.CurlyOpen → Took (At p) [] p q → Into atoms (some expressions ∷ one Kind.Colon ∷ a_name ∷ one Kind.In ∷ some expressions ∷ rest filter ∷ []) 1 [] p q
each_way e t = began e (λ γ. open_each e) t

pub word_way : {p q : Parser} → (o : Unary) → At p ≡ word o → Took (At p) [] p q → Into atoms (some operands ∷ []) 1 [] p q
word_way o e t = began e (λ γ. open_word o e) t

pub part_way : {p q : Parser} → At p ≡ Kind.Part → Took (At p) [] p q → Into atoms (one Kind.Open ∷ some expressions ∷ one Kind.Comma ∷ some expressions ∷ one Kind.Close ∷ []) 1 [] p q
part_way e t = began e (λ γ. open_part e) t

pub fold_way : {p q : Parser} → (f : Fold) → At p ≡ folder f → Took (At p) [] p q → Into atoms (a_joint ∷ some operands ∷ []) 1 [] p q
fold_way f e t = began e (λ γ. open_fold f e) t

pub operand_way : {p : Parser} → Into operands (one Kind.Open ∷ some expressions ∷ one Kind.Close ∷ []) 0 [] p p
operand_way = turn_to start (λ γ free. open_operand)

-- a token that is not at hand, seen from the start of the way
lacking : {p q : Parser} {k : Kind} → Kept p q → (At q ≡ k → ⊥) → kind_at p.tokens.now q.at ≡ k → ⊥
lacking {q = q} {k = k} a n e = n (subst (λ x. kind_at x.now q.at ≡ k) (sym a.tokens) e)

pub paired : {f : Wanted} {us ws : List Wanted} {n : ℕ} {xs : List Occurrence} {p q r : Parser} → Way f us (rest closing ∷ ws) n xs p q → Took Kind.Comma [] q r → Way f us (some expressions ∷ one Kind.Close ∷ ws) (n + 1) xs p r
paired w t = take_on (turn_to w (λ γ free. a_pair (kind_on w.kept t))) t

pub closed : {f : Wanted} {us ws : List Wanted} {n : ℕ} {xs : List Occurrence} {p q q' : Parser} → Way f us (rest closing ∷ ws) n xs p q → Without Kind.Comma q q' → Way f us (one Kind.Close ∷ ws) n xs p q'
closed w h = same_on (turn_to w (λ γ free. no_pair (lacking w.kept h.1))) h.0

pub sieved : {f : Wanted} {us ws : List Wanted} {n : ℕ} {xs : List Occurrence} {p q r : Parser} → Way f us (rest filter ∷ ws) n xs p q → Took Kind.Bar [] q r → Way f us (some expressions ∷ one Kind.CurlyClose ∷ ws) (n + 1) xs p r
sieved w t = take_on (turn_to w (λ γ free. filtered (kind_on w.kept t))) t

pub unsieved : {f : Wanted} {us ws : List Wanted} {n : ℕ} {xs : List Occurrence} {p q q' : Parser} → Way f us (rest filter ∷ ws) n xs p q → Without Kind.Bar q q' → Way f us (one Kind.CurlyClose ∷ ws) n xs p q'
unsieved w h = same_on (turn_to w (λ γ free. unfiltered (lacking w.kept h.1))) h.0

pub another : {f : Wanted} {us ws : List Wanted} {n : ℕ} {xs : List Occurrence} {p q r : Parser} → Way f us (rest items ∷ ws) n xs p q → Took Kind.Comma [] q r → Way f us (some expressions ∷ rest items ∷ ws) (n + 1) xs p r
another w t = take_on (turn_to w (λ γ free. more_item (kind_on w.kept t))) t

pub no_other : {f : Wanted} {us ws : List Wanted} {n : ℕ} {xs : List Occurrence} {p q q' : Parser} → Way f us (rest items ∷ ws) n xs p q → Without Kind.Comma q q' → Way f us (one Kind.SquareClose ∷ ws) n xs p q'
no_other w h = same_on (turn_to w (λ γ free. no_more_item (lacking w.kept h.1))) h.0

pub link : {us : List Wanted} {n : ℕ} {xs : List Occurrence} {c : Chain} {o : Infix} {p q r : Parser} → Way (some (chains c)) us (rest (links c) ∷ []) n xs p q → Joins c o → At q ≡ sign o → Took (At q) [] q r → Way (some (chains c)) us (some (linked c) ∷ rest (links c) ∷ []) (n + 1) xs p r
link w j e t = take_on (turn_to w (λ γ free. more_link j (at_on w.kept e) free)) (took_as e t)

pub no_link : {us : List Wanted} {n : ℕ} {xs : List Occurrence} {c : Chain} {p q : Parser} → Way (some (chains c)) us (rest (links c) ∷ []) n xs p q → ((o : Infix) → Joins c o → At q ≡ sign o → ⊥) → Way (some (chains c)) us [] n xs p q
no_link w h = turn_to w (λ γ free. no_more_link (λ o j. lacking w.kept (h o j)))

pub bracket : {us : List Wanted} {n : ℕ} {xs : List Occurrence} {p q r : Parser} → Way (some posts) us (rest indexes ∷ []) n xs p q → At q ≡ Kind.SquareOpen → Took (At q) [] q r → Way (some posts) us (some expressions ∷ one Kind.SquareClose ∷ rest indexes ∷ []) (n + 1) xs p r
bracket w e t = take_on (turn_to w (λ γ free. more_index (at_on w.kept e) free)) (took_as e t)

pub no_bracket : {us : List Wanted} {n : ℕ} {xs : List Occurrence} {p q : Parser} → Way (some posts) us (rest indexes ∷ []) n xs p q → (At q ≡ Kind.SquareOpen → ⊥) → Way (some posts) us [] n xs p q
no_bracket w h = turn_to w (λ γ free. no_more_index (lacking w.kept h))

pub compare : {us : List Wanted} {n : ℕ} {xs : List Occurrence} {o : Infix} {p q r : Parser} → Way (some tests) us (rest compared ∷ []) n xs p q → Compares o → At q ≡ sign o → Took (At q) [] q r → Way (some tests) us (some (chains sums) ∷ []) (n + 1) xs p r
compare w c e t = take_on (turn_to w (λ γ free. more_test c (at_on w.kept e) free)) (took_as e t)

pub no_compare : {us : List Wanted} {n : ℕ} {xs : List Occurrence} {p q : Parser} → Way (some tests) us (rest compared ∷ []) n xs p q → ((o : Infix) → Compares o → At q ≡ sign o → ⊥) → Way (some tests) us [] n xs p q
no_compare w h = turn_to w (λ γ free. no_more_test (λ o c. lacking w.kept (h o c)))
