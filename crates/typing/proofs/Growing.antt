-- Each occurrence makes a state larger by little.
use Rattle.std.proofs.Common.{◌≡◌, ℕ, suc, ◌+◌, ◌*◌, ◌≤◌, Bool, true, false, cond, leb, List, [], ◌∷◌, ◌++◌, length, take, drop, refl, ap, subst, arith, length-drop, length-take}
use mathlib.Core.Option.{Option, none, some}
use Rattle.std.proofs.lemmas.List.{length_push, length-reverse}
use Rattle.types.specs.Types.{Ty, int, bool, pair, list, parts, same}
use Rattle.types.specs.Entries.{counted}
use Rattle.grammar.specs.Tree.{scan, reduce}
use Rattle.grammar.specs.declared.occurrence.What.{What}
use Rattle.tokens.specs.declared.kind.Name.{Name}
use Rattle.lang.specs.Outcome.{Out, ok, refused, then, refuse}
use Rattle.lang.specs.Rules.{Verdict, gives, unfit, large, limit, infix_rule, pair_rule, index_rule, part_rule, unary_rule, fold_rule, empty_rule, list_rule}
use Rattle.lang.specs.Scope.{Binding}
use Rattle.judging.specs.Notes.{note}
use Rattle.judging.specs.Judging.{State, Fork, top, popped, fork, uses_at, parts_used, counted_of, node_of, one, two, fits, find, variable, each_fork, if_join, each_join, operands, step}
use Rattle.typing.specs.Holding.{Room}

-- what holds of an answer, if there is one
abbrev pub IfOk : (State → Type 0) → Out State → Type 0
IfOk P (ok s) = P s
IfOk P (refused r) = Unit {0}

pub record Grown (s s' : State) : Type 0 where
  pub scope : length s'.scope ≤ length s.scope + 1
  pub stack : length s'.stack ≤ length s.stack + 1
  pub forks : length s'.forks ≤ length s.forks + 1
  pub notes : length s'.notes ≤ length s.notes + 1
  pub weight : s'.weight ≤ s.weight + 4294967296

pub counted_little : (ts : List Ty) → counted_of ts ≤ 1000000 * length ts
counted_little [] = omega arith
counted_little (t ∷ ts) = omega (arith, counted_little ts)

used_little : (s : List Binding) (us : List Bool) → parts_used s us ≤ 1000000 * length s
used_little s [] = omega arith
used_little [] (u ∷ us) = omega arith
used_little (b ∷ s) (true ∷ us) = omega (arith, used_little s us)
used_little (b ∷ s) (false ∷ us) = omega (arith, used_little s us)

length_uses : (n k : ℕ) (fs : List Fork) → length (uses_at n k fs) ≡ length fs
length_uses n k [] = refl
length_uses n k (f ∷ fs) = ap suc (length_uses n k fs)

ruleset sizes = (arith, length_push, length-drop)

module _ (s : State) (room : Room s) (p : ℕ) where
  abbrev Grows : Out State → Type 0
  Grows = IfOk (Grown s)

  fitting : {t u : Ty} (o : Option (Id Ty t u)) (x : State) (f : State → Out State) → Grows (f x) → Grows (then (fits o p x) f)
  fitting none x f g = tt
  fitting (some q) x f g = g

  grow_node : (ts : List Ty) (v : Verdict ts) (n : ℕ) → counted_of ts ≤ 1025000000 → Grows (node_of p ts v (popped n s))
  grow_node ts (gives t o) n h = grind (sizes, h)
  grow_node ts unfit n h = tt
  grow_node ts large n h = tt

  grow_one : (rule : (a : Ty) → Verdict (a ∷ [])) → Grows (one p rule s)
  grow_one rule = grow_node (top s ∷ []) (rule (top s)) 1 (omega arith)

  grow_two : (rule : (a b : Ty) → Verdict (a ∷ b ∷ [])) → Grows (two p rule s)
  grow_two rule = grow_node (top (popped 1 s) ∷ top s ∷ []) (rule (top (popped 1 s)) (top s)) 2 (omega arith)

  grow_list : (n : ℕ) → Grows (step (What.List n) p s)
  grow_list n =
      grow_node (operands n s) (list_rule (operands n s)) n (omega (arith, counted_little (operands n s), length-reverse (take n s.stack), length-take n s.stack, room.stack))

  grow_variable : (o : Option (ℕ × Ty)) → Grows (variable p o s)
  grow_variable none = tt
  grow_variable (some x) = grind (sizes, length_uses (length s.scope) x.0 s.forks)

  grow_fork : (n : Name) (t : Ty) → Grows (each_fork p n t s)
  grow_fork n int = tt
  grow_fork n bool = tt
  grow_fork n (pair a b) = tt
  grow_fork n (list a) = grind sizes

  grow_if : Grows (if_join p s)
  grow_if = fitting (same (top s) (top (popped 1 s))) s _ (grind (sizes, used_little s.scope (fork s).used, room.scope))

  -- the join of a comprehension, with the filter's type off the stack
  grow_join : (b : Ty) (st : List Ty) → length st ≤ length s.stack → (t : Bool) → Grows (cond t (ok (record { scope = drop 1 s.scope; stack = list b ∷ st; forks = drop 1 s.forks; notes = s.notes ++ note (list b); weight = s.weight + (parts_used (drop 1 s.scope) (fork s).used + (1 + counted (list b))) })) (refuse 7 p))
  grow_join b st le true = grind (sizes, le, used_little (drop 1 s.scope) (fork s).used, room.scope)
  grow_join b st le false = tt

  grow_each : (filtered : Bool) (b : Ty) → Grows (each_join p filtered b (popped 1 s))
  grow_each true b =
      fitting (same (top (popped 1 s)) bool) (popped 1 (popped 1 s)) _ (grow_join b (drop 1 (drop 1 s.stack)) (grind sizes) (leb (parts (list b)) limit))
  grow_each false b = grow_join b (drop 1 s.stack) (grind sizes) (leb (parts (list b)) limit)

  heading : (t : Bool) (f : State → Out State) → Grows (f s) → Grows (then (cond t (ok s) (refuse 7 p)) f)
  heading true f g = g
  heading false f g = tt

  pub grows : (w : What) → Grows (step w p s)
  grows (What.Variable n) = grow_variable (find s.scope n)
  grows What.IfFork = fitting (same (top s) bool) s _ (grind sizes)
  grows What.IfJoin = grow_if
  grows (What.EachFork n) = grow_fork n (top s)
  grows What.EachJoin = grow_each (fork s).filtered (top s)
  grows (What.Operate o) = grow_two (infix_rule o)
  grows (What.Apply o) = grow_one (unary_rule o)
  grows What.Index = grow_two index_rule
  grows What.Pair = grow_two pair_rule
  grows (What.List n) = grow_list n
  grows What.Empty = grow_node [] (empty_rule (top s)) 1 (omega arith)
  grows What.Part = grow_two part_rule
  grows (What.Scan o) = grow_one (fold_rule scan o)
  grows (What.Reduce o) = grow_one (fold_rule reduce o)
  grows (What.Parameter n) = heading (leb (parts (top s)) limit) _ (grind sizes)
  grows What.Result = heading (leb (parts (top s)) limit) _ (grind sizes)
  grows (What.Number v) = grind sizes
  grows What.True = grind sizes
  grows What.False = grind sizes
  grows (What.Bind n) = grind sizes
  grows What.LetEnd = grind sizes
  grows What.IfElse = grind sizes
  grows What.EachFilter = grind sizes
  grows What.Group = grind sizes
  grows What.TypeInt = grind sizes
  grows What.TypeBool = grind sizes
  grows What.TypePair = grind sizes
  grows What.TypeList = grind sizes

-- after n occurrences
pub record Small (n : ℕ) (s : State) : Type 0 where
  pub scope : length s.scope ≤ n
  pub stack : length s.stack ≤ n
  pub forks : length s.forks ≤ n
  pub notes : length s.notes ≤ n
  pub weight : s.weight ≤ n * 4294967296

pub small_room : (n : ℕ) (s : State) → n ≤ 1024 → Small n s → Room s
small_room n s le h = grind arith

pub small_more : (n : ℕ) (w : What) (p : ℕ) (s s' : State) → n ≤ 1024 → Small n s → step w p s ≡ ok s' → Small (n + 1) s'
small_more n w p s s' le h e =
    let g : Grown s s' = subst (IfOk (Grown s)) e (grows s (small_room n s le h) p w) in grind arith
