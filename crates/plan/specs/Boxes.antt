-- Which values are boxed, and the tasks and free variables of an expression as a table has them.
use Rattle.std.specs.Prelude.{ℕ, suc, Bool, true, false, cond, List, [], ◌∷◌, take, drop}
use Rattle.monoid.specs.declared.int.Int.{Int}
use Rattle.types.specs.Types.{Ty, int, bool, pair, list}
use Rattle.lang.specs.Expr.{Scalar, number, truth, Op, infix_op, mkpair, first, second, bracket, hollow, index, len_op, range_op, flat_op, part_op, scan_op, reduce_op, Mask}
use Rattle.lang.specs.Layout.{flag}
use Rattle.plan.specs.declared.table.Task.{Task}
use Rattle.plan.specs.declared.table.Task.TheVariants as task
use Rattle.plan.specs.declared.table.Free.{Free}
use Rattle.plan.specs.declared.table.Span.{Span}

-- pairs and lists are named by their place, ints and bools stand for themselves
abbrev pub boxed : Ty → Bool
boxed int = false
boxed bool = false
boxed (pair a b) = true
boxed (list a) = true

-- the word of a scalar
abbrev pub leaf_word : {t : Ty} → Scalar t → Int
leaf_word (number k) = k
leaf_word (truth b) = flag b

abbrev pub task_of : {ts : List Ty} {t : Ty} → Op ts t → Task
task_of (infix_op o) = task.Operate o
task_of (mkpair {a} {b}) = task.MakePair (boxed a) (boxed b)
task_of (first {a} {b}) = task.First (boxed a)
task_of (second {a} {b}) = task.Second (boxed b)
task_of (bracket k a) = task.Bracket (suc k) (boxed a)
task_of (hollow a) = task.Hollow
task_of (index {a}) = task.Index (boxed a)
task_of len_op = task.Length
task_of range_op = task.Range
task_of flat_op = task.Flat
task_of (part_op {a}) = task.Part (boxed a)
task_of (scan_op o) = task.Scan o
task_of (reduce_op o) = task.Reduce o

-- the variables of a set, the innermost first, from the index n on
abbrev pub free_list : (Γ : List Ty) → Mask Γ → ℕ → List Free
free_list [] m n = []
free_list (t ∷ Γ) m n =
    cond m.0 (record { index = n; boxed = boxed t } ∷ free_list Γ m.1 (suc n)) (free_list Γ m.1 (suc n))

-- a part of the list of all
abbrev pub part : List Free → Span → List Free
part fs s = drop s.from (take s.to fs)
