-- Judging a program occurrence by occurrence: what stands in scope and on the stack of types, and the first refusal.
use Rattle.std.specs.Prelude.{ℕ, suc, ◌+◌, ◌-◌, Bool, true, false, cond, List, [], ◌∷◌, ◌++◌, reverse, length, take, drop, replicate, nat_le, nat_lt, slice_index_or, slice_set}
use Rattle.std.proofs.Math.Option.{Option, none, some}
use Rattle.tokens.specs.declared.kind.Name.{Name}
use Rattle.grammar.specs.declared.occurrence.Occurrence.{Occurrence}
use Rattle.grammar.specs.declared.occurrence.What.{What}
use Rattle.grammar.specs.Tree.{scan, reduce}
use Rattle.types.specs.Types.{Ty, int, bool, pair, list, parts, same}
use Rattle.lang.specs.Outcome.{Out, ok, then, refuse}
use Rattle.lang.specs.Rules.{Verdict, gives, unfit, large, limit, infix_rule, pair_rule, index_rule, part_rule, unary_rule, fold_rule, empty_rule, list_rule}
use Rattle.lang.specs.Scope.{Binding, bound, same_name}
use Rattle.types.specs.Entries.{counted}
use Rattle.judging.specs.Notes.{Note, note}

-- Parts are counted up to a million, as the table of types does it; no type of an expression has more than eight.
abbrev pub counted_of : List Ty → ℕ
counted_of [] = 0
counted_of (t ∷ ts) = counted t + counted_of ts

-- an open fork: whether a comprehension has a filter, and which of the variables that were in scope at the fork, innermost first, were used since
pub record Fork : Type 0 where
  pub filtered : Bool
  pub used : List Bool

-- scope and stack have their innermost and uppermost first; types that are written stand on the stack too
pub record State : Type 0 where
  pub scope : List Binding
  pub stack : List Ty
  pub forks : List Fork
  pub notes : List Note
  pub weight : ℕ

-- ---- the parts of a state
abbrev pub top : State → Ty
top s = slice_index_or s.stack 0 int

abbrev pub noted : List Note → State → State
noted ns s = record { scope = s.scope; stack = s.stack; forks = s.forks; notes = s.notes ++ ns; weight = s.weight }

abbrev pub weighing : ℕ → State → State
weighing n s = record { scope = s.scope; stack = s.stack; forks = s.forks; notes = s.notes; weight = s.weight + n }

abbrev pub popped : ℕ → State → State
popped n s = record { scope = s.scope; stack = drop n s.stack; forks = s.forks; notes = s.notes; weight = s.weight }

abbrev pub pushed : Ty → State → State
pushed t s = record { scope = s.scope; stack = t ∷ s.stack; forks = s.forks; notes = s.notes; weight = s.weight }

abbrev pub entered : Name → Ty → State → State
entered n t s = record { scope = bound n t ∷ s.scope; stack = s.stack; forks = s.forks; notes = s.notes; weight = s.weight }

abbrev pub left : State → State
left s = record { scope = drop 1 s.scope; stack = s.stack; forks = s.forks; notes = s.notes; weight = s.weight }

abbrev pub with_forks : List Fork → State → State
with_forks fs s = record { scope = s.scope; stack = s.stack; forks = fs; notes = s.notes; weight = s.weight }

-- ---- forks
abbrev pub forked : State → State
forked s = with_forks (record { filtered = false; used = replicate (length s.scope) false } ∷ s.forks) s

abbrev pub no_fork : Fork
no_fork = record { filtered = false; used = [] }

abbrev pub fork : State → Fork
fork s = slice_index_or s.forks 0 no_fork

abbrev pub joined : State → State
joined s = with_forks (drop 1 s.forks) s

abbrev pub filtering : State → State
filtering s = with_forks (record { filtered = true; used = (fork s).used } ∷ drop 1 s.forks) s

-- the variable k of n in scope is used: a fork that it stands outside of has it as the variable k less those bound since
abbrev pub used_at : ℕ → ℕ → List Bool → List Bool
used_at n k us = cond (nat_lt k (n - length us)) us (slice_set us (k - (n - length us)) true)

abbrev pub uses_at : ℕ → ℕ → List Fork → List Fork
uses_at n k [] = []
uses_at n k (f ∷ fs) = record { filtered = f.filtered; used = used_at n k f.used } ∷ uses_at n k fs

-- the parts of the variables that were used
abbrev pub parts_used : List Binding → List Bool → ℕ
parts_used s [] = 0
parts_used [] (u ∷ us) = 0
parts_used (b ∷ s) (u ∷ us) = cond u (counted b.type + parts_used s us) (parts_used s us)

-- ---- nodes
abbrev pub decide : {ts : List Ty} → ℕ → Verdict ts → Out Ty
decide p (gives t o) = ok t
decide p unfit = refuse 6 p
decide p large = refuse 7 p

-- a node over operands of these types, which are off the stack: its type is pushed
abbrev pub node_of : ℕ → (ts : List Ty) → Verdict ts → State → Out State
node_of p ts v s = then (decide p v) λ t. ok (noted (note t) (weighing (1 + counted_of ts + counted t) (pushed t s)))

abbrev pub one : ℕ → ((a : Ty) → Verdict (a ∷ [])) → State → Out State
one p rule s = node_of p (top s ∷ []) (rule (top s)) (popped 1 s)

abbrev pub two : ℕ → ((a b : Ty) → Verdict (a ∷ b ∷ [])) → State → Out State
two p rule s = node_of p (top (popped 1 s) ∷ top s ∷ []) (rule (top (popped 1 s)) (top s)) (popped 2 s)

-- a leaf
abbrev pub leaf : Ty → State → Out State
leaf t s = ok (noted (note t) (weighing 1 (pushed t s)))

-- what stands uppermost stays, and is noted
abbrev pub mark : State → State
mark s = noted (note (top s)) s

-- a type that is wanted
abbrev pub fits : {t u : Ty} → Option (Id Ty t u) → ℕ → State → Out State
fits none p s = refuse 6 p
fits (some q) p s = ok s

abbrev pub only : Ty → Ty → ℕ → State → Out State
only t u p s = fits (same t u) p s

-- the variable that a name stands for, and its type
abbrev pub nearer : Bool → ℕ × Ty → Option (ℕ × Ty) → Option (ℕ × Ty)
nearer true x r = some x
nearer false x none = none
nearer false x (some r) = some (suc r.0, r.1)

abbrev pub find : List Binding → Name → Option (ℕ × Ty)
find [] n = none
find (b ∷ s) n = nearer (same_name n b.name) (0, b.type) (find s n)

abbrev pub variable : ℕ → Option (ℕ × Ty) → State → Out State
variable p none s = refuse 5 p
variable p (some x) s =
    ok (noted (record { type = x.1; index = x.0 } ∷ []) (weighing 1 (pushed x.1 (with_forks (uses_at (length s.scope) x.0 s.forks) s))))

-- a list at a fork, and its elements' type
abbrev pub each_fork : ℕ → Name → Ty → State → Out State
each_fork p n int s = refuse 6 p
each_fork p n bool s = refuse 6 p
each_fork p n (pair a b) s = refuse 6 p
each_fork p n (list a) s = ok (noted (note (list a)) (weighing (1 + counted (list a)) (entered n a (forked (popped 1 s)))))

-- the two branches have one type
abbrev pub if_join : ℕ → State → Out State
if_join p s =
    then (only (top s) (top (popped 1 s)) p s) λ s.
    ok (mark (weighing (parts_used s.scope (fork s).used + (1 + counted (top (popped 1 s)))) (joined (popped 1 s))))

-- the filter is a bool, and the list's type is not too large
abbrev pub each_join : ℕ → Bool → Ty → State → Out State
each_join p filtered b s =
    then (cond filtered (only (top s) bool p (popped 1 s)) (ok s)) λ s.
    cond (nat_le (parts (list b)) limit)
    (ok (noted (note (list b)) (weighing (parts_used (drop 1 s.scope) (fork s).used + (1 + counted (list b))) (pushed (list b) (left (joined s))))))
    (refuse 7 p)

-- a type that is written in the header has at most 8 parts
abbrev pub header : ℕ → State → Out State
header p s = cond (nat_le (parts (top s)) limit) (ok s) (refuse 7 p)

abbrev pub operands : ℕ → State → List Ty
operands n s = reverse (take n s.stack)

-- one occurrence
abbrev pub step : What → ℕ → State → Out State
step (What.Number v) p s = leaf int s
step What.True p s = leaf bool s
step What.False p s = leaf bool s
step (What.Variable n) p s = variable p (find s.scope n) s
step (What.Bind n) p s = ok (popped 1 (entered n (top s) (mark s)))
step What.LetEnd p s = ok (left (weighing 1 (mark s)))
step What.IfFork p s = then (only (top s) bool p s) λ s. ok (weighing 1 (forked (popped 1 (mark s))))
step What.IfElse p s = ok (mark s)
step What.IfJoin p s = if_join p s
step (What.EachFork n) p s = each_fork p n (top s) s
step What.EachFilter p s = ok (filtering (mark s))
step What.EachJoin p s = each_join p (fork s).filtered (top s) (popped 1 s)
step (What.Operate o) p s = two p (infix_rule o) s
step (What.Apply o) p s = one p (unary_rule o) s
step What.Index p s = two p index_rule s
step What.Group p s = ok (weighing 1 (mark s))
step What.Pair p s = two p pair_rule s
step (What.List n) p s = node_of p (operands n s) (list_rule (operands n s)) (popped n s)
step What.Empty p s = node_of p [] (empty_rule (top s)) (popped 1 s)
step What.Part p s = two p part_rule s
step (What.Scan o) p s = one p (fold_rule scan o) s
step (What.Reduce o) p s = one p (fold_rule reduce o) s
step What.TypeInt p s = ok (mark (pushed int s))
step What.TypeBool p s = ok (mark (pushed bool s))
step What.TypePair p s = ok (mark (pushed (pair (top (popped 1 s)) (top s)) (popped 2 s)))
step What.TypeList p s = ok (mark (pushed (list (top s)) (popped 1 s)))
step (What.Parameter n) p s = then (header p s) λ s. ok (popped 1 (entered n (top s) (mark s)))
step What.Result p s = then (header p s) λ s. ok (mark s)

-- all, in turn
abbrev pub judge : List Occurrence → State → Out State
judge [] s = ok s
judge (o ∷ os) s = then (step o.what o.place s) λ s. judge os s

abbrev pub begin : State
begin = record { scope = []; stack = []; forks = []; notes = []; weight = 0 }

-- at the end the body's type stands on the declared one
abbrev pub heaviest : ℕ
heaviest = 2000

abbrev pub declared : {t u : Ty} → Option (Id Ty t u) → State → Out State
declared none s = refuse 8 0
declared (some q) s = ok s

abbrev pub finish : State → Out State
finish s = then (declared (same (top s) (top (popped 1 s))) s) λ s. cond (nat_le s.weight heaviest) (ok s) (refuse 9 0)
