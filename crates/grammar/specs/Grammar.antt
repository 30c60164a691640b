-- The productions of the grammar: which tokens are a phrase of which sort, with which tree.
use Rattle.std.specs.Prelude.{◌≡◌, ℕ, ◌+◌, true, false, List, length}
use Rattle.tokens.specs.declared.kind.Kind.{Kind}
use Rattle.tokens.specs.declared.kind.Name.{Name}
use Rattle.tokens.specs.declared.kind.Token.{Token}
use Rattle.tokens.specs.Kinds.{kind_at, place_at}
use Rattle.grammar.specs.declared.occurrence.Infix.{Infix}
use Rattle.grammar.specs.declared.occurrence.Infix.TheVariants.{Add, Subtract, Multiply, Divide, Remainder, Same, Less}
use Rattle.grammar.specs.declared.occurrence.Unary.{Unary}
use Rattle.grammar.specs.declared.occurrence.Unary.TheVariants.{Fst, Snd, Len, Range, Flat}
use Rattle.grammar.specs.declared.occurrence.Operation.{Operation}
use Rattle.grammar.specs.declared.occurrence.Operation.TheVariants.{Sum, Max, Or, Lin, House}
use Rattle.grammar.specs.Tree.{Fold, scan, reduce, Tree, number, truth, variable, bind, choice, each, sieve, operate, apply, fold, index, group, pair, part, empty, list, first, more, int, bool, both, many, program}

-- the tokens that stand for operations
abbrev pub sign : Infix → Kind
sign Add = Kind.Plus
sign Subtract = Kind.Minus
sign Multiply = Kind.Times
sign Divide = Kind.Divide
sign Remainder = Kind.Remainder
sign Same = Kind.Same
sign Less = Kind.Less

abbrev pub word : Unary → Kind
word Fst = Kind.Fst
word Snd = Kind.Snd
word Len = Kind.Len
word Range = Kind.Range
word Flat = Kind.Flat

abbrev pub joint : Operation → Kind
joint Sum = Kind.Sum
joint Max = Kind.Max
joint Or = Kind.Or
joint Lin = Kind.Lin
joint House = Kind.House

abbrev pub folder : Fold → Kind
folder scan = Kind.Scan
folder reduce = Kind.Reduce

-- signs of one rank: two that compare, two of a sum, three of a term
pub data Compares : Infix → Type 0 where
  same : Compares Same
  less : Compares Less

pub data Chain : Type 0 where
  sums products : Chain

pub data Joins : Chain → Infix → Type 0 where
  adds : Joins sums Add
  subtracts : Joins sums Subtract
  multiplies : Joins products Multiply
  divides : Joins products Divide
  remains : Joins products Remainder

-- what a phrase is; an operand stands in parentheses behind a word
pub data Sort : Type 0 where
  programs types expressions tests : Sort
  chains : Chain → Sort
  posts atoms operands elements : Sort

-- what the signs of a chain join
abbrev pub linked : Chain → Sort
linked sums = chains products
linked products = posts

-- the tokens from i up to j are a phrase of the sort, with the tree
pub data Derives (ts : List Token) : Sort → ℕ → ℕ → Tree → Type 0 where
  by_program : {i j k l : ℕ} {n : Name} {a b e : Tree} → kind_at ts i ≡ Kind.Main → kind_at ts (i + 1) ≡ Kind.Open → kind_at ts (i + 1 + 1) ≡ Kind.Name n → kind_at ts (i + 1 + 1 + 1) ≡ Kind.Colon → Derives ts types (i + 1 + 1 + 1 + 1) j a → kind_at ts j ≡ Kind.Close → kind_at ts (j + 1) ≡ Kind.Colon → Derives ts types (j + 1 + 1) k b → kind_at ts k ≡ Kind.Equal → Derives ts expressions (k + 1) l e → Derives ts programs i l (program (place_at ts (i + 1 + 1 + 1 + 1)) n (place_at ts (j + 1 + 1)) a b e)
  by_int : {i : ℕ} → kind_at ts i ≡ Kind.Int → Derives ts types i (i + 1) (int (place_at ts i))
  by_bool : {i : ℕ} → kind_at ts i ≡ Kind.Bool → Derives ts types i (i + 1) (bool (place_at ts i))
  by_both : {i j k : ℕ} {a b : Tree} → kind_at ts i ≡ Kind.Open → Derives ts types (i + 1) j a → kind_at ts j ≡ Kind.Comma → Derives ts types (j + 1) k b → kind_at ts k ≡ Kind.Close → Derives ts types i (k + 1) (both (place_at ts i) a b)
  by_many : {i j : ℕ} {a : Tree} → kind_at ts i ≡ Kind.SquareOpen → Derives ts types (i + 1) j a → kind_at ts j ≡ Kind.SquareClose → Derives ts types i (j + 1) (many (place_at ts i) a)
  by_let : {i j k : ℕ} {n : Name} {a b : Tree} → kind_at ts i ≡ Kind.Let → kind_at ts (i + 1) ≡ Kind.Name n → kind_at ts (i + 1 + 1) ≡ Kind.Equal → Derives ts expressions (i + 1 + 1 + 1) j a → kind_at ts j ≡ Kind.In → Derives ts expressions (j + 1) k b → Derives ts expressions i k (bind (place_at ts i) n a b)
  by_if : {i j k l : ℕ} {c a b : Tree} → kind_at ts i ≡ Kind.If → Derives ts expressions (i + 1) j c → kind_at ts j ≡ Kind.Then → Derives ts expressions (j + 1) k a → kind_at ts k ≡ Kind.Else → Derives ts expressions (k + 1) l b → Derives ts expressions i l (choice (place_at ts i) c a b)
  by_test : {i j : ℕ} {a : Tree} → Derives ts tests i j a → Derives ts expressions i j a
  by_comparison : {i j k : ℕ} {o : Infix} {a b : Tree} → Derives ts (chains sums) i j a → Compares o → kind_at ts j ≡ sign o → Derives ts (chains sums) (j + 1) k b → Derives ts tests i k (operate (place_at ts j) o a b)
  by_total : {i j : ℕ} {a : Tree} → Derives ts (chains sums) i j a → Derives ts tests i j a
  by_link : {c : Chain} {i j k : ℕ} {o : Infix} {a b : Tree} → Derives ts (chains c) i j a → Joins c o → kind_at ts j ≡ sign o → Derives ts (linked c) (j + 1) k b → Derives ts (chains c) i k (operate (place_at ts j) o a b)
  by_linked : {c : Chain} {i j : ℕ} {a : Tree} → Derives ts (linked c) i j a → Derives ts (chains c) i j a
  by_index : {i j k : ℕ} {a b : Tree} → Derives ts posts i j a → kind_at ts j ≡ Kind.SquareOpen → Derives ts expressions (j + 1) k b → kind_at ts k ≡ Kind.SquareClose → Derives ts posts i (k + 1) (index (place_at ts j) a b)
  by_atom : {i j : ℕ} {a : Tree} → Derives ts atoms i j a → Derives ts posts i j a
  by_number : {i v : ℕ} → kind_at ts i ≡ Kind.Number v → Derives ts atoms i (i + 1) (number (place_at ts i) v)
  by_true : {i : ℕ} → kind_at ts i ≡ Kind.True → Derives ts atoms i (i + 1) (truth (place_at ts i) true)
  by_false : {i : ℕ} → kind_at ts i ≡ Kind.False → Derives ts atoms i (i + 1) (truth (place_at ts i) false)
  by_name : {i : ℕ} {n : Name} → kind_at ts i ≡ Kind.Name n → Derives ts atoms i (i + 1) (variable (place_at ts i) n)
  by_group : {i j : ℕ} {a : Tree} → kind_at ts i ≡ Kind.Open → Derives ts expressions (i + 1) j a → kind_at ts j ≡ Kind.Close → Derives ts atoms i (j + 1) (group (place_at ts i) a)
  by_pair : {i j k : ℕ} {a b : Tree} → kind_at ts i ≡ Kind.Open → Derives ts expressions (i + 1) j a → kind_at ts j ≡ Kind.Comma → Derives ts expressions (j + 1) k b → kind_at ts k ≡ Kind.Close → Derives ts atoms i (k + 1) (pair (place_at ts i) a b)
  by_list : {i j : ℕ} {a : Tree} → kind_at ts i ≡ Kind.SquareOpen → Derives ts elements (i + 1) j a → kind_at ts j ≡ Kind.SquareClose → Derives ts atoms i (j + 1) (list (place_at ts i) a)
  by_empty : {i j : ℕ} {a : Tree} → kind_at ts i ≡ Kind.Empty → kind_at ts (i + 1) ≡ Kind.Open → Derives ts types (i + 1 + 1) j a → kind_at ts j ≡ Kind.Close → Derives ts atoms i (j + 1) (empty (place_at ts i) a)
  by_each : {i j k : ℕ} {n : Name} {b s : Tree} → kind_at ts i ≡ Kind.CurlyOpen → Derives ts expressions (i + 1) j b → kind_at ts j ≡ Kind.Colon → kind_at ts (j + 1) ≡ Kind.Name n → kind_at ts (j + 1 + 1) ≡ Kind.In → Derives ts expressions (j + 1 + 1 + 1) k s → kind_at ts k ≡ Kind.CurlyClose → Derives ts atoms i (k + 1) (each (place_at ts i) n b s)
  by_sieve : {i j k l : ℕ} {n : Name} {b s f : Tree} → kind_at ts i ≡ Kind.CurlyOpen → Derives ts expressions (i + 1) j b → kind_at ts j ≡ Kind.Colon → kind_at ts (j + 1) ≡ Kind.Name n → kind_at ts (j + 1 + 1) ≡ Kind.In → Derives ts expressions (j + 1 + 1 + 1) k s → kind_at ts k ≡ Kind.Bar → Derives ts expressions (k + 1) l f → kind_at ts l ≡ Kind.CurlyClose → Derives ts atoms i (l + 1) (sieve (place_at ts i) n b s f)
  by_word : {i j : ℕ} {a : Tree} → (o : Unary) → kind_at ts i ≡ word o → Derives ts operands (i + 1) j a → Derives ts atoms i j (apply (place_at ts i) o a)
  by_part : {i j k : ℕ} {a b : Tree} → kind_at ts i ≡ Kind.Part → kind_at ts (i + 1) ≡ Kind.Open → Derives ts expressions (i + 1 + 1) j a → kind_at ts j ≡ Kind.Comma → Derives ts expressions (j + 1) k b → kind_at ts k ≡ Kind.Close → Derives ts atoms i (k + 1) (part (place_at ts i) a b)
  by_fold : {i j : ℕ} {a : Tree} → (f : Fold) (o : Operation) → kind_at ts i ≡ folder f → kind_at ts (i + 1) ≡ joint o → Derives ts operands (i + 1 + 1) j a → Derives ts atoms i j (fold (place_at ts i) f o a)
  by_operand : {i j : ℕ} {a : Tree} → kind_at ts i ≡ Kind.Open → Derives ts expressions (i + 1) j a → kind_at ts j ≡ Kind.Close → Derives ts operands i (j + 1) a
  by_first : {i j : ℕ} {a : Tree} → Derives ts expressions i j a → Derives ts elements i j (first a)
  by_more : {i j k : ℕ} {a b : Tree} → Derives ts elements i j a → kind_at ts j ≡ Kind.Comma → Derives ts expressions (j + 1) k b → Derives ts elements i k (more a b)

-- the tokens are a program and then the end
pub record Program (ts : List Token) : Type 0 where
  pub upto : ℕ
  pub tree : Tree
  pub derives : Derives ts programs 0 upto tree
  pub ends : kind_at ts upto ≡ Kind.End
  pub all : length ts ≡ upto + 1
