-- Phrases that grow to the right, one part after the other, grow in one way only.
use Rattle.std.proofs.Common.{◌≡◌, ℕ, false, List, sym, refl, subst}
use Rattle.tokens.specs.declared.kind.Token.{Token}
use Rattle.tokens.specs.Kinds.{kind_at}
use Rattle.grammar.specs.Tree.{Tree}
use Rattle.grammar.specs.Grammar.{Sort, Derives}
use Rattle.grammar.specs.Law.{extends}

-- one end, one tree
pub record Agrees (j : ℕ) (t : Tree) (k : ℕ) (u : Tree) : Type 0 where
  pub ends : j ≡ k
  pub trees : t ≡ u

-- no phrase of the sort goes on here
abbrev pub Shut : List Token → Sort → ℕ → Type 0
Shut ts s j = extends s (kind_at ts j) ≡ false

-- a phrase of the sort that does not go on is this one
abbrev pub Only : List Token → Sort → ℕ → ℕ → Tree → Type 0
Only ts s i j t = Shut ts s j → (k : ℕ) (u : Tree) → Derives ts s i k u → Shut ts s k → Agrees j t k u

-- parts that are added: from the end and the tree before to those after
abbrev pub Adding : Type 1
Adding = ℕ → Tree → ℕ → Tree → Type 0

pub data Grows (Add : Adding) : ℕ → Tree → ℕ → Tree → Type 0 where
  stay : {j : ℕ} {t : Tree} → Grows Add j t j t
  more : {j k l : ℕ} {t v u : Tree} → Add j t k v → Grows Add k v l u → Grows Add j t l u

-- the sort s begins with a phrase of the sort b, to which parts are added, until it stops
pub record Loop (ts : List Token) (s b : Sort) (wrap : Tree → Tree) (Add : Adding) (Stop : ℕ → Type 0) : Type 0 where
  pub never : {j k : ℕ} {t v : Tree} → Add j t k v → Stop j → ⊥
  pub stops : (j : ℕ) → Stop j → Shut ts b j
  pub adds : {j k : ℕ} {t v : Tree} → Add j t k v → Shut ts b j
  pub out : {i j k : ℕ} {t u : Tree} → Derives ts s i j t → Grows Add j t k u → (m : ℕ) × (v : Tree) × Derives ts b i m v × Grows Add m (wrap v) k u

-- whatever grows from here ends there
abbrev pub Ends : Adding → (ℕ → Type 0) → ℕ → Tree → ℕ → Tree → Type 0
Ends Add Stop j t k u = (l : ℕ) (v : Tree) → Grows Add j t l v → Stop l → Agrees k u l v

-- the phrase is the only one that goes on as it does
abbrev pub Grown : List Token → Sort → Sort → Adding → (ℕ → Type 0) → ℕ → ℕ → Tree → Type 0
Grown ts s b Add Stop i j t = (k : ℕ) (u : Tree) → Shut ts b j → Ends Add Stop j t k u → (l : ℕ) (v : Tree) → Derives ts s i l v → Stop l → Agrees k u l v

module _ {ts : List Token} {s b : Sort} {wrap : Tree → Tree} {Add : Adding} {Stop : ℕ → Type 0} (loop : Loop ts s b wrap Add Stop) where
  first_shut : {j k : ℕ} {t u : Tree} → Grows Add j t k u → Stop k → Shut ts b j
  first_shut stay st = loop.stops _ st
  first_shut (more a _) st = loop.adds a

  moved : {j k l : ℕ} {t v u : Tree} → Agrees j t k v → Grows Add k v l u → Grows Add j t l u
  moved {j} {k} {l} {t} {v} {u} e g = subst (λ n. Grows Add n t l u) (sym e.ends) (subst (λ x. Grows Add k x l u) (sym e.trees) g)

  after : {m j k l : ℕ} {a t u v : Tree} → Add m a j t → ((n : ℕ) (x : Tree) → Add m a n x → Shut ts b n → Agrees j t n x) → Ends Add Stop j t k u → Grows Add m a l v → Stop l → Agrees k u l v
  after add only ends stay st = absurd (loop.never add st)
  after add only ends (more a g) st = ends _ _ (moved (only _ _ a (first_shut g st)) g) st

  -- one more part
  pub grown_more : {i m j : ℕ} {a t : Tree} → Grown ts s b Add Stop i m a → Add m a j t → ((n : ℕ) (x : Tree) → Add m a n x → Shut ts b n → Shut ts b j → Agrees j t n x) → Grown ts s b Add Stop i j t
  grown_more g add only k u shut ends l v d st = g k u (loop.adds add) (λ n x h y. after add (λ n x h y. only n x h y shut) ends h y) l v d st

  -- the first
  pub grown_first : {i j : ℕ} {t : Tree} → Only ts b i j t → ((m : ℕ) (v : Tree) → Agrees j t m v → Agrees j (wrap t) m (wrap v)) → Grown ts s b Add Stop i j (wrap t)
  grown_first only wraps k u shut ends l v d st =
      let x = loop.out d stay in
      let e = only shut x.0 x.1 x.2 (first_shut x.3 st) in
      ends l v (moved (wraps _ _ e) x.3) st

  ends_here : {j l : ℕ} {t v : Tree} → Stop j → Grows Add j t l v → Agrees j t l v
  ends_here st stay = record { ends = refl; trees = refl }
  ends_here st (more a _) = absurd (loop.never a st)

  -- a phrase that has stopped
  pub grown_only : {i j : ℕ} {t : Tree} → Grown ts s b Add Stop i j t → Stop j → (l : ℕ) (v : Tree) → Derives ts s i l v → Stop l → Agrees j t l v
  grown_only {j = j} {t = t} g st = g j t (loop.stops j st) (λ l v h y. ends_here st h)
