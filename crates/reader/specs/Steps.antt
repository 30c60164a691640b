-- What the steps of the reader keep, add and promise.
use Rattle.std.specs.Prelude.{◌≡◌, ℕ, ◌+◌, ◌<◌, ◌≤◌, List, [], ◌∷◌, ◌++◌, length, take, drop, vec_items, vec_len, vec_capacity, Result, MatchResult}
use Rattle.tokens.specs.declared.kind.Kind.{Kind}
use Rattle.tokens.specs.Kinds.{kind_at, place_at}
use Rattle.refusal.specs.declared.Refusal.{Refusal}
use Rattle.grammar.specs.declared.occurrence.What.{What}
use Rattle.grammar.specs.declared.occurrence.Occurrence.{Occurrence}
use Rattle.grammar.specs.Tree.{Tree, count, occ, occs}
use Rattle.grammar.specs.Grammar.{Sort, expressions, elements, Derives}
use Rattle.grammar.specs.Law.{Refuses, Wanted, one, some, rest, Tail, items, filter, Stands, Free}
use Rattle.reader.specs.declared.fault.ParseFault.{ParseFault}
use Rattle.reader.specs.declared.parser.Parser.{Parser}
use Rattle.reader.specs.Faults.{of_parse}

-- the kind and the place in the text of the token at hand
abbrev pub At : Parser → Kind
At p = kind_at p.tokens.now p.at

abbrev pub Here : Parser → ℕ
Here p = place_at p.tokens.now p.at

-- there is room for more occurrences than tokens are left
abbrev pub Spare : Parser → Type 0
Spare p = vec_len p.table.now + length p.tokens.now < vec_capacity p.table.now + p.at

-- the tokens are the same, and the table is the same one, as large as it was
pub record Kept (p q : Parser) : Type 0 where
  pub tokens : q.tokens ≡ p.tokens
  pub lender : q.table.ghost_name ≡ p.table.ghost_name
  pub capacity : vec_capacity q.table.now ≡ vec_capacity p.table.now

-- n tokens were passed, and the occurrences xs were added
pub record Moved (n : ℕ) (xs : List Occurrence) (p q : Parser) : Type 0 where
  pub kept : Kept p q
  pub items : vec_items q.table.now ≡ vec_items p.table.now ++ xs
  pub place : q.at ≡ p.at + n

-- the token k was passed, and the occurrences xs were added
pub record Took (k : Kind) (xs : List Occurrence) (p q : Parser) : Type 0 where
  pub was : At p ≡ k
  pub moved : Moved 1 xs p q

-- of the occurrences from the given one on, the first n went to the end
pub record Turned (start n : ℕ) (p q : Parser) : Type 0 where
  pub kept : Kept p q
  pub items : vec_items q.table.now ≡ take start (vec_items p.table.now) ++ drop n (drop start (vec_items p.table.now)) ++ take n (drop start (vec_items p.table.now))
  pub place : q.at ≡ p.at

-- from p, where us was wanted, to q, where ws is, if f may stand before what follows: the occurrences xs were added, at least n
-- fewer than tokens were passed
pub record Way (f : Wanted) (us ws : List Wanted) (n : ℕ) (xs : List Occurrence) (p q : Parser) : Type 0 where
  pub kept : Kept p q
  pub grown : vec_items q.table.now ≡ vec_items p.table.now ++ xs
  pub few : length xs + n + p.at ≤ q.at
  pub stands : (γ : List Wanted) → Free f γ → Stands p.tokens.now p.at (us ++ γ) → Stands p.tokens.now q.at (ws ++ γ)

-- on the way over a phrase of the sort, ws is wanted still
abbrev pub Into : Sort → List Wanted → ℕ → List Occurrence → Parser → Parser → Type 0
Into s ws n xs p q = Way (some s) (some s ∷ []) ws n xs p q

-- a phrase of the sort was passed, and its occurrences were added
pub record Read (s : Sort) (p q : Parser) : Type 0 where
  pub tree : Tree
  pub derives : Derives p.tokens.now s p.at q.at tree
  pub way : Into s [] 0 (occs tree) p q

-- where w was wanted, the program is refused so
pub record Stops (w : Wanted) (p q : Parser) (f : Refusal) : Type 0 where
  pub kept : Kept p q
  pub refuses : (γ : List Wanted) → Free w γ → Stands p.tokens.now p.at (w ∷ γ) → Refuses p.tokens.now f

-- a phrase of the sort was passed, or the program is refused
abbrev pub Passes : Sort → Result (Unit {0}) ParseFault → Parser → Parser → Type 0
Passes s r p q = MatchResult r (λ _. Read s p q) (λ f. Stops (some s) p q (of_parse f))

-- turns of a loop: whatever phrase ended at p now ends at q, with more occurrences, and the same is wanted
pub record Loops (s : Sort) (r : Tail) (p q : Parser) : Type 0 where
  pub added : List Occurrence
  pub way : Way (some s) (rest r ∷ []) (rest r ∷ []) 0 added p q
  pub reads : (i : ℕ) (a : Tree) → Derives p.tokens.now s i p.at a → (t : Tree) × Derives p.tokens.now s i q.at t × (occs t ≡ occs a ++ added)

-- turns of the loop over elements: as above, and the count goes from m to n
pub record Counts (m n : ℕ) (p q : Parser) : Type 0 where
  pub added : List Occurrence
  pub way : Way (rest items) (rest items ∷ []) (rest items ∷ []) 0 added p q
  pub reads : (i : ℕ) (a : Tree) → Derives p.tokens.now elements i p.at a → (t : Tree) × Derives p.tokens.now elements i q.at t × (occs t ≡ occs a ++ added) × (count t + m ≡ count a + n)
  pub few : n + p.at ≤ m + q.at

-- the filter of a comprehension at the place m was passed, or there is none
pub data Filtered (m : ℕ) (p q : Parser) : Type 0 where
  none : Way (rest filter) (rest filter ∷ []) (one Kind.CurlyClose ∷ []) 0 [] p q → q.at ≡ p.at → Filtered m p q
  given : {t : Tree} → At p ≡ Kind.Bar → Derives p.tokens.now expressions (p.at + 1) q.at t → Way (rest filter) (rest filter ∷ []) (one Kind.CurlyClose ∷ []) 0 (occs t ++ occ What.EachFilter m) p q → Filtered m p q
