-- What begins a program, and where a token is refused.
use Rattle.std.specs.Prelude.{◌≡◌, ℕ, ◌+◌, ◌<◌, Bool, true, false, cond, List, [], ◌∷◌, ◌++◌, length, take, ◌==◌, nat_lt}
use Rattle.tokens.specs.declared.kind.Kind.{Kind}
use Rattle.tokens.specs.declared.kind.Name.{Name}
use Rattle.tokens.specs.declared.kind.Token.{Token}
use Rattle.tokens.specs.Kinds.{code, kind_at, place_at}
use Rattle.refusal.specs.declared.Refusal.{Refusal}
use Rattle.grammar.specs.declared.occurrence.Infix.{Infix}
use Rattle.grammar.specs.declared.occurrence.Operation.{Operation}
use Rattle.grammar.specs.declared.occurrence.Occurrence.{Occurrence}
use Rattle.grammar.specs.Tree.{Tree, occs}
use Rattle.grammar.specs.Grammar.{sign, joint, Compares, Chain, sums, products, Joins, Sort, programs, types, expressions, tests, chains, posts, atoms, operands, elements, linked, Derives, Program}

-- the number of a refusal at a token of this kind: 2 where none stands, 4 past the last that may be, else 3
abbrev pub number_of : Kind → ℕ
number_of k = cond (code k == 1) 2 (cond (code k == 2) 2 (cond (code k == 3) 2 (cond (code k == 4) 4 3)))

abbrev pub refusal_at : List Token → ℕ → Refusal
refusal_at ts i = record { number = number_of (kind_at ts i); place = place_at ts i }

-- some program begins with the tokens
abbrev pub Begins : List Token → Type 0
Begins ts = (rest : List Token) × Program (ts ++ rest)

-- the refusal stands at the first token with which no program goes on: what stands before it begins one, and together with it none.
-- Its number and its place are the token's
pub record Refuses (ts : List Token) (f : Refusal) : Type 0 where
  pub upto : ℕ
  pub within : upto < length ts
  pub is : f ≡ refusal_at ts upto
  pub before : Begins (take upto ts)
  pub with_it : Begins (take (upto + 1) ts) → ⊥

-- what may go on after a phrase: a second operand, more operands, more indexes, more elements and the bracket, the end of a group, the end of a comprehension
pub data Tail : Type 0 where
  compared : Tail
  links : Chain → Tail
  indexes items closing filter : Tail

pub data Rest (ts : List Token) : Tail → ℕ → ℕ → Type 0 where
  no_test : {i : ℕ} → Rest ts compared i i
  a_test : {i j : ℕ} {o : Infix} {b : Tree} → Compares o → kind_at ts i ≡ sign o → Derives ts (chains sums) (i + 1) j b → Rest ts compared i j
  no_link : {c : Chain} {i : ℕ} → Rest ts (links c) i i
  a_link : {c : Chain} {i j k : ℕ} {o : Infix} {b : Tree} → Joins c o → kind_at ts i ≡ sign o → Derives ts (linked c) (i + 1) j b → Rest ts (links c) j k → Rest ts (links c) i k
  no_index : {i : ℕ} → Rest ts indexes i i
  an_index : {i j k : ℕ} {b : Tree} → kind_at ts i ≡ Kind.SquareOpen → Derives ts expressions (i + 1) j b → kind_at ts j ≡ Kind.SquareClose → Rest ts indexes (j + 1) k → Rest ts indexes i k
  no_item : {i : ℕ} → kind_at ts i ≡ Kind.SquareClose → Rest ts items i (i + 1)
  an_item : {i j k : ℕ} {b : Tree} → kind_at ts i ≡ Kind.Comma → Derives ts expressions (i + 1) j b → Rest ts items j k → Rest ts items i k
  no_second : {i : ℕ} → kind_at ts i ≡ Kind.Close → Rest ts closing i (i + 1)
  a_second : {i j : ℕ} {b : Tree} → kind_at ts i ≡ Kind.Comma → Derives ts expressions (i + 1) j b → kind_at ts j ≡ Kind.Close → Rest ts closing i (j + 1)
  no_filter : {i : ℕ} → kind_at ts i ≡ Kind.CurlyClose → Rest ts filter i (i + 1)
  a_filter : {i j : ℕ} {f : Tree} → kind_at ts i ≡ Kind.Bar → Derives ts expressions (i + 1) j f → kind_at ts j ≡ Kind.CurlyClose → Rest ts filter i (j + 1)

-- what is still wanted: a token, any name, any operation of joining, a phrase, the rest of one
pub data Wanted : Type 0 where
  one : Kind → Wanted
  a_name a_joint : Wanted
  some : Sort → Wanted
  rest : Tail → Wanted

-- the tokens from i to the end are what is wanted, in order
abbrev pub Parses : List Token → List Wanted → ℕ → Type 0
Parses ts [] i = length ts ≡ i
Parses ts (one k ∷ γ) i = (kind_at ts i ≡ k) × Parses ts γ (i + 1)
Parses ts (a_name ∷ γ) i = ((n : Name) × (kind_at ts i ≡ Kind.Name n)) × Parses ts γ (i + 1)
Parses ts (a_joint ∷ γ) i = ((o : Operation) × (kind_at ts i ≡ joint o)) × Parses ts γ (i + 1)
Parses ts (some s ∷ γ) i = (j : ℕ) × (t : Tree) × Derives ts s i j t × Parses ts γ j
Parses ts (rest r ∷ γ) i = (j : ℕ) × Rest ts r i j × Parses ts γ j

-- the same kinds of tokens below n
abbrev pub Agree : ℕ → List Token → List Token → Type 0
Agree n ts xs = (k : ℕ) → k < n → kind_at xs k ≡ kind_at ts k

-- with the first i tokens passed, what is still wanted is γ: whatever goes on with γ is a program, and each program that goes on
-- with the token at i goes on with γ
pub record Stands (ts : List Token) (i : ℕ) (γ : List Wanted) : Type 0 where
  pub makes : (xs : List Token) → Agree i ts xs → Parses xs γ i → Program xs
  pub only : (xs : List Token) → Agree (i + 1) ts xs → Program xs → Parses xs γ i

-- the tokens that would make a phrase of the sort longer: an index, and the signs from its own rank on
abbrev pub extends : Sort → Kind → Bool
extends programs k = cond (code k == 33) true (nat_lt 40 (code k))
extends types k = false
extends expressions k = cond (code k == 33) true (nat_lt 40 (code k))
extends tests k = cond (code k == 33) true (nat_lt 40 (code k))
extends (chains sums) k = cond (code k == 33) true (nat_lt 42 (code k))
extends (chains products) k = cond (code k == 33) true (nat_lt 44 (code k))
extends posts k = cond (code k == 33) true (nat_lt 47 (code k))
extends atoms k = false
extends operands k = false
extends elements k = false

-- what follows does not begin with such a token
abbrev pub Free : Wanted → List Wanted → Type 0
Free (one _) γ = Unit {0}
Free a_name γ = Unit {0}
Free a_joint γ = Unit {0}
Free (some s) γ = (xs : List Token) (i : ℕ) → Parses xs γ i → extends s (kind_at xs i) ≡ false
Free (rest _) γ = Unit {0}

-- the tokens are a program, and these are its occurrences
pub record Reads (ts : List Token) (os : List Occurrence) : Type 0 where
  pub program : Program ts
  pub table : os ≡ occs program.tree
