-- How a phrase goes on, by the token at hand: one more part, or none.
use Rattle.std.proofs.Common.{◌≡◌, ℕ, List, ◌∷◌, sym, refl, ◌∙◌}
use Rattle.tokens.specs.declared.kind.Kind.{Kind}
use Rattle.tokens.specs.declared.kind.Token.{Token}
use Rattle.tokens.specs.Kinds.{kind_at}
use Rattle.grammar.specs.declared.occurrence.Infix.{Infix}
use Rattle.grammar.specs.Grammar.{sign, Compares, Chain, sums, Joins, expressions, tests, chains, posts, linked}
use Rattle.grammar.specs.Law.{compared, links, indexes, items, closing, filter, Rest, no_test, a_test, no_link, a_link, no_index, an_index, no_item, an_item, no_second, a_second, no_filter, a_filter, Wanted, one, some, rest, Parses, Stands, Free}
use Rattle.grammar.proofs.Signs.{compares_extends, joins_extends}
use Rattle.grammar.proofs.Wanting.{apart, expand}
use Rattle.grammar.proofs.Follow.{extended}

-- a comparison
more_test_out : (γ : List Wanted) {xs : List Token} {i j : ℕ} {o : Infix} → Free (some tests) γ → Compares o → kind_at xs i ≡ sign o → Rest xs compared i j → Parses xs γ j → Parses xs (one (sign o) ∷ some (chains sums) ∷ γ) i
more_test_out γ free c e no_test r = absurd (extended tests e (compares_extends c) (free _ _ r))
more_test_out γ free c e (a_test _ _ b) r = (e, (_, _, b, r))

pub more_test : {ts : List Token} {i : ℕ} {o : Infix} {γ : List Wanted} → Compares o → kind_at ts i ≡ sign o → Free (some tests) γ → Stands ts i (rest compared ∷ γ) → Stands ts i (one (sign o) ∷ some (chains sums) ∷ γ)
more_test {γ = γ} c e free s = expand s
    (λ xs h. (h.1.0, a_test c h.0 h.1.2, h.1.3))
    (λ xs same h. more_test_out γ free c (same ∙ e) h.1 h.2)

no_more_test_out : (γ : List Wanted) {xs : List Token} {i j : ℕ} → ((o : Infix) → Compares o → kind_at xs i ≡ sign o → ⊥) → Rest xs compared i j → Parses xs γ j → Parses xs γ i
no_more_test_out γ n no_test r = r
no_more_test_out γ n (a_test c e _) r = absurd (n _ c e)

pub no_more_test : {ts : List Token} {i : ℕ} {γ : List Wanted} → ((o : Infix) → Compares o → kind_at ts i ≡ sign o → ⊥) → Stands ts i (rest compared ∷ γ) → Stands ts i γ
no_more_test {γ = γ} n s = expand s
    (λ xs h. (_, no_test, h))
    (λ xs same h. no_more_test_out γ (λ o c e. n o c (sym same ∙ e)) h.1 h.2)

-- links of a chain
more_link_out : (γ : List Wanted) {xs : List Token} {c : Chain} {i j : ℕ} {o : Infix} → Free (some (chains c)) γ → Joins c o → kind_at xs i ≡ sign o → Rest xs (links c) i j → Parses xs γ j → Parses xs (one (sign o) ∷ some (linked c) ∷ rest (links c) ∷ γ) i
more_link_out γ {c = c} free q e no_link r = absurd (extended (chains c) e (joins_extends q) (free _ _ r))
more_link_out γ free q e (a_link _ _ b d) r = (e, (_, _, b, (_, d, r)))

pub more_link : {ts : List Token} {c : Chain} {i : ℕ} {o : Infix} {γ : List Wanted} → Joins c o → kind_at ts i ≡ sign o → Free (some (chains c)) γ → Stands ts i (rest (links c) ∷ γ) → Stands ts i (one (sign o) ∷ some (linked c) ∷ rest (links c) ∷ γ)
more_link {c = c} {γ = γ} q e free s = expand s
    (λ xs h. let b = h.1 in (b.3.0, a_link q h.0 b.2 b.3.1, b.3.2))
    (λ xs same h. more_link_out γ {c = c} free q (same ∙ e) h.1 h.2)

no_more_link_out : (γ : List Wanted) {xs : List Token} {c : Chain} {i j : ℕ} → ((o : Infix) → Joins c o → kind_at xs i ≡ sign o → ⊥) → Rest xs (links c) i j → Parses xs γ j → Parses xs γ i
no_more_link_out γ n no_link r = r
no_more_link_out γ n (a_link q e _ _) r = absurd (n _ q e)

pub no_more_link : {ts : List Token} {c : Chain} {i : ℕ} {γ : List Wanted} → ((o : Infix) → Joins c o → kind_at ts i ≡ sign o → ⊥) → Stands ts i (rest (links c) ∷ γ) → Stands ts i γ
no_more_link {γ = γ} n s = expand s
    (λ xs h. (_, no_link, h))
    (λ xs same h. no_more_link_out γ (λ o q e. n o q (sym same ∙ e)) h.1 h.2)

-- an index
more_index_out : (γ : List Wanted) {xs : List Token} {i j : ℕ} → Free (some posts) γ → kind_at xs i ≡ Kind.SquareOpen → Rest xs indexes i j → Parses xs γ j → Parses xs (one Kind.SquareOpen ∷ some expressions ∷ one Kind.SquareClose ∷ rest indexes ∷ γ) i
more_index_out γ free e no_index r = absurd (extended posts e refl (free _ _ r))
more_index_out γ free e (an_index a b c d) r = (a, (_, _, b, (c, (_, d, r))))

pub more_index : {ts : List Token} {i : ℕ} {γ : List Wanted} → kind_at ts i ≡ Kind.SquareOpen → Free (some posts) γ → Stands ts i (rest indexes ∷ γ) → Stands ts i (one Kind.SquareOpen ∷ some expressions ∷ one Kind.SquareClose ∷ rest indexes ∷ γ)
more_index {γ = γ} e free s = expand s
    (λ xs h. let b = h.1 in let c = b.3.1 in (c.0, an_index h.0 b.2 b.3.0 c.1, c.2))
    (λ xs same h. more_index_out γ free (same ∙ e) h.1 h.2)

no_more_index_out : (γ : List Wanted) {xs : List Token} {i j : ℕ} → (kind_at xs i ≡ Kind.SquareOpen → ⊥) → Rest xs indexes i j → Parses xs γ j → Parses xs γ i
no_more_index_out γ n no_index r = r
no_more_index_out γ n (an_index e _ _ _) r = absurd (n e)

pub no_more_index : {ts : List Token} {i : ℕ} {γ : List Wanted} → (kind_at ts i ≡ Kind.SquareOpen → ⊥) → Stands ts i (rest indexes ∷ γ) → Stands ts i γ
no_more_index {γ = γ} n s = expand s
    (λ xs h. (_, no_index, h))
    (λ xs same h. no_more_index_out γ (λ e. n (sym same ∙ e)) h.1 h.2)

-- elements
more_item_out : (γ : List Wanted) {xs : List Token} {i j : ℕ} → kind_at xs i ≡ Kind.Comma → Rest xs items i j → Parses xs γ j → Parses xs (one Kind.Comma ∷ some expressions ∷ rest items ∷ γ) i
more_item_out γ n (no_item e) r = absurd (apart n e refl)
more_item_out γ n (an_item a b c) r = (a, (_, _, b, (_, c, r)))

pub more_item : {ts : List Token} {i : ℕ} {γ : List Wanted} → kind_at ts i ≡ Kind.Comma → Stands ts i (rest items ∷ γ) → Stands ts i (one Kind.Comma ∷ some expressions ∷ rest items ∷ γ)
more_item {γ = γ} n s = expand s
    (λ xs h. let b = h.1 in (b.3.0, an_item h.0 b.2 b.3.1, b.3.2))
    (λ xs same h. more_item_out γ (same ∙ n) h.1 h.2)

no_more_item_out : (γ : List Wanted) {xs : List Token} {i j : ℕ} → (kind_at xs i ≡ Kind.Comma → ⊥) → Rest xs items i j → Parses xs γ j → Parses xs (one Kind.SquareClose ∷ γ) i
no_more_item_out γ n (no_item e) r = (e, r)
no_more_item_out γ n (an_item a _ _) r = absurd (n a)

pub no_more_item : {ts : List Token} {i : ℕ} {γ : List Wanted} → (kind_at ts i ≡ Kind.Comma → ⊥) → Stands ts i (rest items ∷ γ) → Stands ts i (one Kind.SquareClose ∷ γ)
no_more_item {γ = γ} n s = expand s
    (λ xs h. (_, no_item h.0, h.1))
    (λ xs same h. no_more_item_out γ (λ e. n (sym same ∙ e)) h.1 h.2)

-- the end of a group
a_pair_out : (γ : List Wanted) {xs : List Token} {i j : ℕ} → kind_at xs i ≡ Kind.Comma → Rest xs closing i j → Parses xs γ j → Parses xs (one Kind.Comma ∷ some expressions ∷ one Kind.Close ∷ γ) i
a_pair_out γ n (no_second e) r = absurd (apart n e refl)
a_pair_out γ n (a_second a b c) r = (a, (_, _, b, (c, r)))

pub a_pair : {ts : List Token} {i : ℕ} {γ : List Wanted} → kind_at ts i ≡ Kind.Comma → Stands ts i (rest closing ∷ γ) → Stands ts i (one Kind.Comma ∷ some expressions ∷ one Kind.Close ∷ γ)
a_pair {γ = γ} n s = expand s
    (λ xs h. let b = h.1 in (_, a_second h.0 b.2 b.3.0, b.3.1))
    (λ xs same h. a_pair_out γ (same ∙ n) h.1 h.2)

no_pair_out : (γ : List Wanted) {xs : List Token} {i j : ℕ} → (kind_at xs i ≡ Kind.Comma → ⊥) → Rest xs closing i j → Parses xs γ j → Parses xs (one Kind.Close ∷ γ) i
no_pair_out γ n (no_second e) r = (e, r)
no_pair_out γ n (a_second a _ _) r = absurd (n a)

pub no_pair : {ts : List Token} {i : ℕ} {γ : List Wanted} → (kind_at ts i ≡ Kind.Comma → ⊥) → Stands ts i (rest closing ∷ γ) → Stands ts i (one Kind.Close ∷ γ)
no_pair {γ = γ} n s = expand s
    (λ xs h. (_, no_second h.0, h.1))
    (λ xs same h. no_pair_out γ (λ e. n (sym same ∙ e)) h.1 h.2)

-- the end of a comprehension
filtered_out : (γ : List Wanted) {xs : List Token} {i j : ℕ} → kind_at xs i ≡ Kind.Bar → Rest xs filter i j → Parses xs γ j → Parses xs (one Kind.Bar ∷ some expressions ∷ one Kind.CurlyClose ∷ γ) i
filtered_out γ n (no_filter e) r = absurd (apart n e refl)
filtered_out γ n (a_filter a b c) r = (a, (_, _, b, (c, r)))

pub filtered : {ts : List Token} {i : ℕ} {γ : List Wanted} → kind_at ts i ≡ Kind.Bar → Stands ts i (rest filter ∷ γ) → Stands ts i (one Kind.Bar ∷ some expressions ∷ one Kind.CurlyClose ∷ γ)
filtered {γ = γ} n s = expand s
    (λ xs h. let b = h.1 in (_, a_filter h.0 b.2 b.3.0, b.3.1))
    (λ xs same h. filtered_out γ (same ∙ n) h.1 h.2)

unfiltered_out : (γ : List Wanted) {xs : List Token} {i j : ℕ} → (kind_at xs i ≡ Kind.Bar → ⊥) → Rest xs filter i j → Parses xs γ j → Parses xs (one Kind.CurlyClose ∷ γ) i
unfiltered_out γ n (no_filter e) r = (e, r)
unfiltered_out γ n (a_filter a _ _) r = absurd (n a)

pub unfiltered : {ts : List Token} {i : ℕ} {γ : List Wanted} → (kind_at ts i ≡ Kind.Bar → ⊥) → Stands ts i (rest filter ∷ γ) → Stands ts i (one Kind.CurlyClose ∷ γ)
unfiltered {γ = γ} n s = expand s
    (λ xs h. (_, no_filter h.0, h.1))
    (λ xs same h. unfiltered_out γ (λ e. n (sym same ∙ e)) h.1 h.2)
