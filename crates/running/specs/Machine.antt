-- The machine of direct runs: one entry of the table at a time.
use Rattle.std.specs.Prelude.{ℕ, zero, suc, ◌+◌, ◌-◌, ◌*◌, Bool, true, false, cond, not, ◌||◌, List, [], ◌∷◌, ◌++◌, map, reverse, length, take, drop, ℤ, pos, negsuc, nat_le, nat_lt, slice_index_or, Result, Ok, Err}
use Rattle.std.proofs.Math.Option.{Option, none, some}
use Rattle.monoid.specs.declared.int.Int.{Int}
use Rattle.monoid.specs.Ints.{int_zero, int_one, int_sum, int_product, is_zero}
use Rattle.monoid.specs.Affine.{affine_identity, affine_then}
use Rattle.monoid.specs.Laws.{product}
use Rattle.monoid.specs.Segments.{concat, running}
use Rattle.grammar.specs.declared.occurrence.Infix.{Infix}
use Rattle.grammar.specs.declared.occurrence.Infix.TheVariants.{Add, Subtract, Multiply, Divide, Remainder, Same, Less}
use Rattle.grammar.specs.declared.occurrence.Operation.{Operation}
use Rattle.grammar.specs.declared.occurrence.Operation.TheVariants.{Sum, Max, Or, Lin, House}
use Rattle.lang.specs.Values.{Val, sum_by}
use Rattle.lang.specs.Expr.{answers}
use Rattle.lang.specs.Layout.{flag, count, flat_map}
use Rattle.rules.specs.Arithmetic.{infix_of}
use Rattle.rules.specs.Primitives.{infix_failure, ints_below, parted}
use Rattle.rules.specs.Joining.{Joining, HouseJoin, joining}
use Rattle.rules.specs.Run.{spent}
use Rattle.rules.specs.Outcome.{refusal}
use Rattle.plan.specs.declared.table.Task.{Task}
use Rattle.plan.specs.declared.table.Task.TheVariants.{Operate, MakePair, First, Second, Bracket, Hollow, Index, Length, Range, Flat, Part, Scan, Reduce}
use Rattle.plan.specs.declared.table.Mark.{Mark}
use Rattle.plan.specs.declared.table.Mark.TheVariants.{LetEnd, Leaf, Variable, Bind, Group, Basic, IfFork, IfElse, IfJoin, EachFork, EachFilter, EachJoin}
use Rattle.plan.specs.declared.table.Entry.{Entry}
use Rattle.plan.specs.declared.table.Free.{Free}
use Rattle.plan.specs.Boxes.{part}
use Rattle.plan.specs.Planned.{blank}
use Rattle.running.specs.Cells.{word, place, size_less, size_at, long_at, elements_at, halves_at, pair_block, list_block, nested, sizes_of}
use Rattle.running.specs.declared.outcome.Ran.{Ran}
use Rattle.running.specs.declared.outcome.Halt.{Halt}
use Rattle.running.specs.declared.outcome.Halt.TheVariants.{Refused, Spent}

-- the entry that comes next, the charges so far, the values' cells, and three stacks, their tops first: operands, variables, loops
pub record State : Type 0 where
  pub pc : ℕ
  pub charged : ℕ
  pub heap : List Int
  pub ops : List Int
  pub env : List Int
  pub loops : List Int

abbrev pub st : ℕ → ℕ → List Int → List Int → List Int → List Int → State
st i c h o e l = record { pc = i; charged = c; heap = h; ops = o; env = e; loops = l }

-- how a run ends: with the word of the value and the work, or refused, or with no steps left
abbrev pub Outcome : Type 0
Outcome = Result Ran Halt

abbrev pub answer : Int → ℕ → Outcome
answer w n = Ok (record { word = w; work = n })

abbrev pub refuse : ℕ → ℕ → Outcome
refuse n p = Err (Refused (refusal n p))

pub data Step : Type 0 where
  onto : State → Step
  stop : Outcome → Step

-- charges n at the place p, or refuses
abbrev pub pay : ℕ → ℕ → ℕ → State → Step
pay B p n m = cond (nat_le (m.charged + n) B) (onto (st m.pc (m.charged + n) m.heap m.ops m.env m.loops)) (stop (refuse spent p))

-- what there is to go on with, or a refusal where there is nothing
abbrev pub tried : {A : Type 0} → ℕ → ℕ → Option A → (A → Step) → Step
tried k p none f = stop (refuse k p)
tried k p (some a) f = f a

-- k operands are taken and w is pushed
abbrev pub leaves : State → ℕ → Int → State
leaves m k w = st (m.pc + 1) m.charged m.heap (w ∷ drop k m.ops) m.env m.loops

-- the same, with a block after all the cells
abbrev pub writes : State → ℕ → List Int → Int → State
writes m k b w = st (m.pc + 1) m.charged (m.heap ++ b) (w ∷ drop k m.ops) m.env m.loops

-- the operands, the last uppermost
abbrev pub top : State → Int
top m = word m.ops 0

abbrev pub under : State → Int
under m = word m.ops 1

-- the word of the next block
abbrev pub fresh : State → Int
fresh m = count (length m.heap)

-- ---- tasks

-- the word of what an infix sign answers
abbrev pub answer_word : (o : Infix) → Val (answers o) → Int
answer_word Add v = v
answer_word Subtract v = v
answer_word Multiply v = v
answer_word Divide v = v
answer_word Remainder v = v
answer_word Same v = flag v
answer_word Less v = flag v

abbrev pub do_operate : ℕ → Infix → ℕ → State → Step
do_operate B o p m = tried (infix_failure o) p (infix_of o (under m) (top m)) (λ v. pay B p 4 (leaves m 2 (answer_word o v)))

abbrev pub do_pair : ℕ → Bool → Bool → ℕ → State → Step
do_pair B x y p m =
    let n : ℕ = size_at m.heap x (under m) + size_at m.heap y (top m) in
    pay B p (1 + n + n) (writes m 2 (pair_block (n - 1) (under m) (top m)) (fresh m))

-- the half in the cell k after the pair's first
abbrev pub do_half : ℕ → ℕ → Bool → ℕ → State → Step
do_half B k x p m =
    let w : Int = word m.heap (place (top m) + k) in
    pay B p (1 + size_at m.heap true (top m) + size_at m.heap x w) (leaves m 1 w)

-- the k uppermost operands, the lowest first
abbrev pub topmost : ℕ → State → List Int
topmost k m = reverse (take k m.ops)

abbrev pub do_bracket : ℕ → ℕ → Bool → ℕ → State → Step
do_bracket B k x p m =
    let n : ℕ = sum_by (size_at m.heap x) (topmost k m) in
    pay B p (1 + n + (1 + n)) (writes m k (list_block n (topmost k m)) (fresh m))

abbrev pub do_hollow : ℕ → ℕ → State → Step
do_hollow B p m = pay B p 2 (writes m 0 (list_block 0 []) (fresh m))

-- is an index a place of a list of n
abbrev pub inside : ℤ → ℕ → Bool
inside (pos i) n = nat_lt i n
inside (negsuc i) n = false

abbrev pub do_index : ℕ → Bool → ℕ → State → Step
do_index B x p m =
    let w : Int = word m.heap (place (under m) + 2 + place (top m)) in
    cond (inside (top m).value (long_at m.heap (under m)))
    (pay B p (1 + (size_at m.heap true (under m) + 1) + size_at m.heap x w) (leaves m 2 w)) (stop (refuse 19 p))

abbrev pub do_length : ℕ → ℕ → State → Step
do_length B p m = pay B p (1 + size_at m.heap true (top m) + 1) (leaves m 1 (word m.heap (place (top m) + 1)))

abbrev pub do_range : ℕ → ℕ → State → Step
do_range B p m =
    let n : ℕ = place (top m) in
    pay B p (1 + 1 + (1 + n)) (writes m 1 (list_block n (ints_below n)) (fresh m))

-- the block of the elements of a list's elements
abbrev pub flat_block : List Int → Int → List Int
flat_block h w = list_block (sum_by (size_less h) (elements_at h w)) (flat_map (elements_at h) (elements_at h w))

abbrev pub do_flat : ℕ → ℕ → State → Step
do_flat B p m =
    pay B p (1 + size_at m.heap true (top m) + (1 + sum_by (size_less m.heap) (elements_at m.heap (top m))))
    (writes m 1 (flat_block m.heap (top m)) (fresh m))

-- the blocks of lists of words
abbrev pub part_blocks : List Int → Bool → List (List Int) → List (List Int)
part_blocks h x wss = map (λ ws. list_block (sum_by (size_at h x) ws) ws) wss

abbrev pub do_part : ℕ → Bool → ℕ → State → Step
do_part B x p m =
    tried 20 p (parted (elements_at m.heap (under m)) (elements_at m.heap (top m)))
    (λ wss. let n : ℕ = length wss + sum_by (size_at m.heap x) (elements_at m.heap (under m)) in
    let bs : List (List Int) = part_blocks m.heap x wss in
    pay B p (1 + (size_at m.heap true (under m) + size_at m.heap true (top m)) + (1 + n))
    (writes m 2 (nested (length m.heap) n bs) (count (length m.heap + length (concat bs)))))

-- or on words: 0 is false
abbrev pub or_words : Joining Int
or_words = record { unit = int_zero; op = λ u v. flag (not (is_zero u) || not (is_zero v)) }

abbrev pub lin_pairs : Joining (Int × Int)
lin_pairs = record { unit = affine_identity int_zero int_one; op = affine_then int_sum int_product }

-- scans and reductions of a list whose elements are words
abbrev pub scan_block : Joining Int → List Int → Int → List Int
scan_block J h w = list_block (size_less h w) (running J.op J.unit (elements_at h w))

abbrev pub scan_words : ℕ → Joining Int → ℕ → State → Step
scan_words B J p m =
    pay B p (1 + size_at m.heap true (top m) + size_at m.heap true (top m)) (writes m 1 (scan_block J m.heap (top m)) (fresh m))

abbrev pub reduce_words : ℕ → Joining Int → ℕ → State → Step
reduce_words B J p m = pay B p (1 + size_at m.heap true (top m) + 1) (leaves m 1 (product J.unit J.op (elements_at m.heap (top m))))

-- and of a list of pairs: each pair of the result has a block
abbrev pub scan_blocks : List Int → Int → List (List Int)
scan_blocks h w = map (λ q. pair_block 1 q.0 q.1) (running lin_pairs.op lin_pairs.unit (map (halves_at h) (elements_at h w)))

abbrev pub scan_pairs : ℕ → ℕ → State → Step
scan_pairs B p m =
    let bs : List (List Int) = scan_blocks m.heap (top m) in
    pay B p (1 + size_at m.heap true (top m) + size_at m.heap true (top m))
    (writes m 1 (nested (length m.heap) (size_less m.heap (top m)) bs) (count (length m.heap + length (concat bs))))

abbrev pub reduce_pairs : ℕ → ℕ → State → Step
reduce_pairs B p m =
    let q : Int × Int = product lin_pairs.unit lin_pairs.op (map (halves_at m.heap) (elements_at m.heap (top m))) in
    pay B p (1 + size_at m.heap true (top m) + 2) (writes m 1 (pair_block 1 q.0 q.1) (fresh m))

-- ---- comprehensions

-- the list of the results that stand above the base, when no element is left
abbrev pub gather : ℕ → Bool → ℕ → ℕ → State → Step
gather B x k p m =
    let n : ℕ = sum_by (size_at m.heap x) (topmost k m) in
    pay B p (1 + (1 + n)) (st (m.pc + 1) m.charged (m.heap ++ list_block n (topmost k m)) (fresh m ∷ drop k m.ops) (drop 1 m.env)
    (drop 3 m.loops))

-- the next element becomes the variable; a loop's three words: its list, how many elements are left, how many operands stood below
abbrev pub advance : ℕ → ℕ → State → Step
advance fork left m =
    let u : Int = word m.loops 0 in
    onto (st fork m.charged m.heap m.ops (word m.heap (place u + 2 + (long_at m.heap u - left)) ∷ drop 1 m.env)
    (u ∷ count (left - 1) ∷ word m.loops 2 ∷ drop 3 m.loops))

abbrev pub join_each : ℕ → ℕ → Bool → ℕ → State → Step
join_each B fork x p m =
    cond (is_zero (word m.loops 1)) (gather B x (length m.ops - place (word m.loops 2)) p m) (advance fork (place (word m.loops 1)) m)

abbrev pub fork_each : ℕ → List Free → ℕ → ℕ → State → Step
fork_each B fs join p m =
    pay B p (1 + size_at m.heap true (top m) + suc (long_at m.heap (top m)) * sizes_of m.heap m.env fs)
    (st join m.charged m.heap (drop 1 m.ops) (int_zero ∷ m.env)
    (top m ∷ count (long_at m.heap (top m)) ∷ count (length (drop 1 m.ops)) ∷ m.loops))

-- ---- marks that need no joining of the house

abbrev pub do_leaf : ℕ → Int → ℕ → State → Step
do_leaf B k p m = pay B p 1 (leaves m 0 k)

abbrev pub do_variable : ℕ → ℕ → ℕ → State → Step
do_variable B x p m = pay B p 1 (leaves m 0 (word m.env x))

abbrev pub do_bind : State → Step
do_bind m = onto (st (m.pc + 1) m.charged m.heap (drop 1 m.ops) (top m ∷ m.env) m.loops)

abbrev pub do_let_end : ℕ → ℕ → State → Step
do_let_end B p m = pay B p 1 (st (m.pc + 1) m.charged m.heap m.ops (drop 1 m.env) m.loops)

abbrev pub do_group : ℕ → ℕ → State → Step
do_group B p m = pay B p 1 (st (m.pc + 1) m.charged m.heap m.ops m.env m.loops)

abbrev pub fork_if : ℕ → List Free → ℕ → ℕ → State → Step
fork_if B fs other p m =
    pay B p (1 + sizes_of m.heap m.env fs)
    (st (cond (is_zero (top m)) other (m.pc + 1)) m.charged m.heap (drop 1 m.ops) m.env m.loops)

abbrev pub switch_if : ℕ → State → Step
switch_if join m = onto (st join m.charged m.heap m.ops m.env m.loops)

abbrev pub join_if : ℕ → Bool → ℕ → State → Step
join_if B x p m = pay B p (1 + size_at m.heap x (top m)) (st (m.pc + 1) m.charged m.heap m.ops m.env m.loops)

abbrev pub filter_each : ℕ → State → Step
filter_each join m =
    onto (st (cond (is_zero (top m)) join (m.pc + 1)) m.charged m.heap (drop 1 m.ops) m.env m.loops)

-- ---- a run under the budget B

module _ (B : ℕ) (H : HouseJoin) where
  abbrev pub do_scan : Operation → ℕ → State → Step
  do_scan Sum p m = scan_words B (joining H Sum) p m
  do_scan Max p m = scan_words B (joining H Max) p m
  do_scan Or p m = scan_words B or_words p m
  do_scan Lin p m = scan_pairs B p m
  do_scan House p m = scan_words B H p m

  abbrev pub do_reduce : Operation → ℕ → State → Step
  do_reduce Sum p m = reduce_words B (joining H Sum) p m
  do_reduce Max p m = reduce_words B (joining H Max) p m
  do_reduce Or p m = reduce_words B or_words p m
  do_reduce Lin p m = reduce_pairs B p m
  do_reduce House p m = reduce_words B H p m

  abbrev pub do_task : Task → ℕ → State → Step
  do_task (Operate o) p m = do_operate B o p m
  do_task (MakePair x y) p m = do_pair B x y p m
  do_task (First x) p m = do_half B 1 x p m
  do_task (Second x) p m = do_half B 2 x p m
  do_task (Bracket k x) p m = do_bracket B k x p m
  do_task Hollow p m = do_hollow B p m
  do_task (Index x) p m = do_index B x p m
  do_task Length p m = do_length B p m
  do_task Range p m = do_range B p m
  do_task Flat p m = do_flat B p m
  do_task (Part x) p m = do_part B x p m
  do_task (Scan o) p m = do_scan o p m
  do_task (Reduce o) p m = do_reduce o p m

  abbrev pub do_mark : List Free → Mark → ℕ → State → Step
  do_mark fs LetEnd p m = do_let_end B p m
  do_mark fs (Leaf k) p m = do_leaf B k p m
  do_mark fs (Variable x) p m = do_variable B x p m
  do_mark fs Bind p m = do_bind m
  do_mark fs Group p m = do_group B p m
  do_mark fs (Basic t) p m = do_task t p m
  do_mark fs (IfFork other s) p m = fork_if B (part fs s) other p m
  do_mark fs (IfElse join) p m = switch_if join m
  do_mark fs (IfJoin x) p m = join_if B x p m
  do_mark fs (EachFork join s) p m = fork_each B (part fs s) join p m
  do_mark fs (EachFilter join) p m = filter_each join m
  do_mark fs (EachJoin fork x) p m = join_each B fork x p m

  -- past the last entry the run ends with the uppermost operand
  abbrev pub step : List Entry → List Free → State → Step
  step os fs m =
      cond (nat_lt m.pc (length os)) (do_mark fs (slice_index_or os m.pc blank).mark (slice_index_or os m.pc blank).place m) (stop (answer (top m) m.charged))

  -- at most n steps: how the run ends, and the values' cells then
  unfoldable pub exec : ℕ → List Entry → List Free → State → Outcome × List Int
  exec zero os fs m = (Err Spent, m.heap)
  exec (suc n) os fs m = elim (step os fs m) [ onto m' ↦ exec n os fs m' | stop r ↦ (r, m.heap) ]
