-- What follows a phrase is not taken for more of it.
use Rattle.std.proofs.Common.{◌≡◌, ℕ, ◌≤◌, Bool, true, false, cond, eqb, ltb, List, ◌∷◌, sym, refl, ◌∙◌, subst, arith}
use Rattle.tokens.specs.declared.kind.Kind.{Kind}
use Rattle.tokens.specs.declared.kind.Token.{Token}
use Rattle.tokens.specs.Kinds.{code, kind_at}
use Rattle.grammar.specs.Grammar.{Chain, sums, products, Sort, types, programs, expressions, tests, chains, posts, atoms, operands, elements, linked}
use Rattle.grammar.specs.Law.{compared, links, items, closing, filter, Rest, no_test, a_test, no_link, a_link, no_item, an_item, no_second, a_second, no_filter, a_filter, Wanted, one, some, rest, Parses, extends, Free}
use Rattle.grammar.proofs.Signs.{compares_shut, joins_shut}

pub clash : true ≡ false → ⊥
clash z = search (arith)

-- a token that makes it longer is not one that does not
pub extended : (s : Sort) {k l : Kind} → k ≡ l → extends s l ≡ true → extends s k ≡ false → ⊥
extended s e longer shut = clash (sym (subst (λ x. extends s x ≡ true) (sym e) longer) ∙ shut)

pub shut_by : (s : Sort) {k l : Kind} → k ≡ l → extends s l ≡ false → extends s k ≡ false
shut_by s e h = subst (λ x. extends s x ≡ false) (sym e) h

pub free_token : (γ : List Wanted) (s : Sort) (k : Kind) → extends s k ≡ false → Free (some s) (one k ∷ γ)
free_token γ s k e xs i h = shut_by s h.0 e

items_shut : {xs : List Token} {i j : ℕ} → Rest xs items i j → extends expressions (kind_at xs i) ≡ false
items_shut (no_item e) = shut_by expressions e refl
items_shut (an_item e _ _) = shut_by expressions e refl

closing_shut : {xs : List Token} {i j : ℕ} → Rest xs closing i j → extends expressions (kind_at xs i) ≡ false
closing_shut (no_second e) = shut_by expressions e refl
closing_shut (a_second e _ _) = shut_by expressions e refl

filter_shut : {xs : List Token} {i j : ℕ} → Rest xs filter i j → extends expressions (kind_at xs i) ≡ false
filter_shut (no_filter e) = shut_by expressions e refl
filter_shut (a_filter e _ _) = shut_by expressions e refl

pub free_items : (γ : List Wanted) → Free (some expressions) (rest items ∷ γ)
free_items γ xs i h = items_shut h.1

pub free_closing : (γ : List Wanted) → Free (some expressions) (rest closing ∷ γ)
free_closing γ xs i h = closing_shut h.1

pub free_filter : (γ : List Wanted) → Free (some expressions) (rest filter ∷ γ)
free_filter γ xs i h = filter_shut h.1

-- what makes the part of a chain longer makes the chain longer
higher : (b : Bool) (m n k : ℕ) → m ≤ n → cond b true (ltb m k) ≡ false → cond b true (ltb n k) ≡ false
higher true m n k le h = h
higher false m n k le h = at (ltb n k) refl
  where
    at : (x : Bool) → ltb n k ≡ x → x ≡ false
    at false e = refl
    at true e = absurd (clash (sym (grind (arith, e)) ∙ h))

pub lower : (c : Chain) (k : Kind) → extends (chains c) k ≡ false → extends (linked c) k ≡ false
lower sums k h = higher (eqb (code k) 33) 42 44 (code k) (omega arith) h
lower products k h = higher (eqb (code k) 33) 44 47 (code k) (omega arith) h

pub total_lower : (k : Kind) → extends tests k ≡ false → extends (chains sums) k ≡ false
total_lower k h = higher (eqb (code k) 33) 40 42 (code k) (omega arith) h

pub free_total : (γ : List Wanted) → Free (some tests) γ → Free (some (chains sums)) γ
free_total γ free xs i h = total_lower (kind_at xs i) (free xs i h)

compared_shut : (γ : List Wanted) {xs : List Token} {i j : ℕ} → Free (some tests) γ → Rest xs compared i j → Parses xs γ j → extends (chains sums) (kind_at xs i) ≡ false
compared_shut γ {xs} {i} free no_test r = total_lower (kind_at xs i) (free xs i r)
compared_shut γ free (a_test o e _) r = shut_by (chains sums) e (compares_shut o)

pub free_compared : (γ : List Wanted) → Free (some tests) γ → Free (some (chains sums)) (rest compared ∷ γ)
free_compared γ free xs i h = compared_shut γ free h.1 h.2

links_shut : (γ : List Wanted) {xs : List Token} {c : Chain} {i j : ℕ} → Free (some (chains c)) γ → Rest xs (links c) i j → Parses xs γ j → extends (linked c) (kind_at xs i) ≡ false
links_shut γ {xs} {c} {i} free no_link r = lower c (kind_at xs i) (free xs i r)
links_shut γ {c = c} free (a_link o e _ _) r = shut_by (linked c) e (joins_shut o)

pub free_links : (c : Chain) (γ : List Wanted) → Free (some (chains c)) γ → Free (some (linked c)) (rest (links c) ∷ γ)
free_links c γ free xs i h = links_shut γ {c = c} free h.1 h.2

pub free_types : (γ : List Wanted) → Free (some types) γ
free_types γ xs i h = refl

pub free_atoms : (γ : List Wanted) → Free (some atoms) γ
free_atoms γ xs i h = refl

pub free_operands : (γ : List Wanted) → Free (some operands) γ
free_operands γ xs i h = refl

-- the end makes no phrase longer
pub shut_end : (s : Sort) → extends s Kind.End ≡ false
shut_end programs = refl
shut_end types = refl
shut_end expressions = refl
shut_end tests = refl
shut_end (chains sums) = refl
shut_end (chains products) = refl
shut_end posts = refl
shut_end atoms = refl
shut_end operands = refl
shut_end elements = refl
