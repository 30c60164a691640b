-- A table that is being filled, one typed occurrence after the other.
use Rattle.std.specs.Prelude.{ℕ, suc, ◌-◌, ◌≤◌, Bool, false, cond, List, [], ◌∷◌, ◌++◌, length, drop, replicate, Some, None, Option, slice_index_or, slice_set}
use Rattle.grammar.specs.declared.occurrence.Occurrence.{Occurrence}
use Rattle.grammar.specs.declared.occurrence.Unary.{Unary}
use Rattle.grammar.specs.declared.occurrence.Unary.TheVariants.{Fst, Snd, Len, Range, Flat}
use Rattle.types.specs.Types.{Ty, int, bool, pair, list}
use Rattle.lang.specs.Layout.{flag}
use Rattle.judging.specs.Notes.{Note}
use Rattle.judging.specs.Acts.{Act, TypedOccurrence, resolved}
use Rattle.typing.specs.declared.parts.Use.{Use}
use Rattle.typing.specs.Codes.{replay}
use Rattle.plan.specs.declared.table.Task.{Task}
use Rattle.plan.specs.declared.table.Task.TheVariants as task
use Rattle.plan.specs.declared.table.Mark.{Mark}
use Rattle.plan.specs.declared.table.Entry.{Entry}
use Rattle.plan.specs.declared.table.Span.{Span}
use Rattle.plan.specs.declared.table.Free.{Free}
use Rattle.plan.specs.declared.fork.Fork.{Fork}
use Rattle.plan.specs.Boxes.{boxed}

-- scope and forks have their innermost first; of a variable in scope it is known whether it is boxed
pub record Filling : Type 0 where
  pub entries : List Entry
  pub frees : List Free
  pub scope : List Bool
  pub forks : List Fork
  pub uses : List Use

abbrev pub filling : List Entry → List Free → List Bool → List Fork → List Use → Filling
filling es fs sc ks us = record { entries = es; frees = fs; scope = sc; forks = ks; uses = us }

abbrev pub empty : Filling
empty = filling [] [] [] [] []

abbrev pub entry : Mark → ℕ → Entry
entry m p = record { mark = m; place = p }

-- room for 1,024 in each
abbrev pub Rooms : ℕ → ℕ → ℕ → ℕ → ℕ → Type 0
Rooms a b c d e = (1024 ≤ a) × (1024 ≤ b) × (1024 ≤ c) × (1024 ≤ d) × (1024 ≤ e)

-- ---- the parts of types
abbrev pub elements_boxed : Ty → Bool
elements_boxed int = false
elements_boxed bool = false
elements_boxed (pair a b) = false
elements_boxed (list a) = boxed a

-- of lists of lists
abbrev pub inner_boxed : Ty → Bool
inner_boxed int = false
inner_boxed bool = false
inner_boxed (pair a b) = false
inner_boxed (list a) = elements_boxed a

abbrev pub first_boxed : Ty → Bool
first_boxed int = false
first_boxed bool = false
first_boxed (pair a b) = boxed a
first_boxed (list a) = false

abbrev pub second_boxed : Ty → Bool
second_boxed int = false
second_boxed bool = false
second_boxed (pair a b) = boxed b
second_boxed (list a) = false

-- ---- the parts of a table
abbrev pub added : Mark → ℕ → Filling → Filling
added m p s = filling (s.entries ++ entry m p ∷ []) s.frees s.scope s.forks s.uses

-- an earlier entry is replaced
abbrev pub put : ℕ → Mark → ℕ → Filling → Filling
put i m p s = filling (slice_set s.entries i (entry m p)) s.frees s.scope s.forks s.uses

abbrev pub entered : Bool → Filling → Filling
entered b s = filling s.entries s.frees (b ∷ s.scope) s.forks s.uses

abbrev pub left : Filling → Filling
left s = filling s.entries s.frees (drop 1 s.scope) s.forks s.uses

abbrev pub logged : Use → Filling → Filling
logged u s = filling s.entries s.frees s.scope s.forks (s.uses ++ u ∷ [])

-- the variable that k stand inside of is used
abbrev pub used : ℕ → Filling → Filling
used k s = logged (record { depth = length s.scope; index = k }) s

abbrev pub with_forks : List Fork → Filling → Filling
with_forks ks s = filling s.entries s.frees s.scope ks s.uses

-- ---- forks
abbrev pub no_fork : Fork
no_fork = record { first = 0; second = None; start = 0 }

abbrev pub fork : Filling → Fork
fork s = slice_index_or s.forks 0 no_fork

-- what comes next is the first behind a fork
abbrev pub opened : Filling → Filling
opened s = with_forks (record { first = length s.entries; second = None; start = length s.uses } ∷ s.forks) s

-- what comes next is the first of the second part
abbrev pub halved : Filling → Filling
halved s = with_forks (record { first = (fork s).first; second = Some (length s.entries); start = (fork s).start } ∷ drop 1 s.forks) s

abbrev pub closed : Filling → Filling
closed s = with_forks (drop 1 s.forks) s

-- the variables that were used, the innermost first, from the index n on
abbrev pub gathered : List Bool → List Bool → ℕ → List Free
gathered [] bs n = []
gathered (u ∷ us) [] n = []
gathered (u ∷ us) (b ∷ bs) n = cond u (record { index = n; boxed = b } ∷ gathered us bs (suc n)) (gathered us bs (suc n))

-- the flags of those in scope after these uses
abbrev pub flagged : List Use → ℕ → List Bool
flagged us n = replay us (replicate n false)

-- the variables in scope that were used since
abbrev pub since : ℕ → Filling → List Free
since start s = gathered (flagged (drop start s.uses) (length s.scope)) s.scope 0

abbrev pub collected : ℕ → Filling → Filling
collected start s = filling s.entries (s.frees ++ since start s) s.scope s.forks s.uses

-- and where they stand
abbrev pub spanned : ℕ → Filling → Span
spanned start s = record { from = length s.frees; to = length (s.frees ++ since start s) }

-- ---- joins
abbrev pub or_else : Option ℕ → ℕ → ℕ
or_else None n = n
or_else (Some k) n = k

abbrev pub chosen : Fork → Span → ℕ → Filling → Filling
chosen f r p s = put (or_else f.second f.first - 1) (Mark.IfElse (length s.entries)) p (put (f.first - 1) (Mark.IfFork (or_else f.second f.first) r) p s)

abbrev pub if_joined : Bool → ℕ → Filling → Filling
if_joined b p s = added (Mark.IfJoin b) p (closed (chosen (fork s) (spanned (fork s).start s) p (collected (fork s).start s)))

-- where there is a filter
abbrev pub filtered : Option ℕ → ℕ → ℕ → Filling → Filling
filtered None join p s = s
filtered (Some k) join p s = put (k - 1) (Mark.EachFilter join) p s

abbrev pub swept : Fork → Span → ℕ → Filling → Filling
swept f r p s = filtered f.second (length s.entries) p (put (f.first - 1) (Mark.EachFork (length s.entries) r) p s)

-- the variable of a comprehension is left before
abbrev pub each_joined : Bool → ℕ → Filling → Filling
each_joined b p s = added (Mark.EachJoin (fork s).first b) p (closed (swept (fork s) (spanned (fork s).start s) p (collected (fork s).start s)))

-- ---- one occurrence
abbrev pub nowhere : Span
nowhere = record { from = 0; to = 0 }

abbrev pub unary : Unary → Ty → Task
unary Fst t = task.First (boxed t)
unary Snd t = task.Second (boxed t)
unary Len t = task.Length
unary Range t = task.Range
unary Flat t = task.Flat

abbrev pub step : Act → ℕ → Ty → Filling → Filling
step (Act.number k) p t s = added (Mark.Leaf k) p s
step (Act.truth b) p t s = added (Mark.Leaf (flag b)) p s
step (Act.variable k) p t s = added (Mark.Variable k) p (used k s)
step Act.bind p t s = entered (boxed t) (added Mark.Bind p s)
step Act.let_end p t s = left (added Mark.LetEnd p s)
step Act.if_fork p t s = opened (added (Mark.IfFork 0 nowhere) p s)
step Act.if_else p t s = halved (added (Mark.IfElse 0) p s)
step Act.if_join p t s = if_joined (boxed t) p s
step Act.each_fork p t s = entered (elements_boxed t) (opened (added (Mark.EachFork 0 nowhere) p s))
step Act.each_filter p t s = halved (added (Mark.EachFilter 0) p s)
step Act.each_join p t s = each_joined (elements_boxed t) p (left s)
step (Act.operate o) p t s = added (Mark.Basic (task.Operate o)) p s
step (Act.apply o) p t s = added (Mark.Basic (unary o t)) p s
step Act.index p t s = added (Mark.Basic (task.Index (boxed t))) p s
step Act.group p t s = added Mark.Group p s
step Act.pair p t s = added (Mark.Basic (task.MakePair (first_boxed t) (second_boxed t))) p s
step (Act.bracket k) p t s = added (Mark.Basic (task.Bracket k (elements_boxed t))) p s
step Act.empty p t s = added (Mark.Basic task.Hollow) p s
step Act.part p t s = added (Mark.Basic (task.Part (inner_boxed t))) p s
step (Act.scan o) p t s = added (Mark.Basic (task.Scan o)) p s
step (Act.reduce o) p t s = added (Mark.Basic (task.Reduce o)) p s
step Act.type_int p t s = s
step Act.type_bool p t s = s
step Act.type_pair p t s = s
step Act.type_list p t s = s
step Act.parameter p t s = entered (boxed t) s
step Act.result p t s = s

abbrev pub one : TypedOccurrence → Filling → Filling
one o s = step o.act o.place o.type s

-- all, in turn
abbrev pub run : List TypedOccurrence → Filling → Filling
run [] s = s
run (o ∷ os) s = run os (one o s)

-- occurrences with as many notes
abbrev pub typed : List Occurrence → List Note → List TypedOccurrence
typed [] ns = []
typed (o ∷ os) [] = []
typed (o ∷ os) (n ∷ ns) = resolved o n ∷ typed os ns
