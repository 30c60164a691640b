-- What a step writes is paid for.
use Rattle.std.proofs.Common.{rules, arith}
use Rattle.std.proofs.Common.{◌≡◌, ℕ, ◌+◌, ◌*◌, ◌≤◌, Bool, true, false, cond, T, leb, List, [], ◌++◌, length, sym, refl, ap, ◌∙◌, arith, leb→le}
use Rattle.std.proofs.lemmas.Grind.{common_steps}
use mathlib.Core.Option.{Option, none, some}
use Rattle.std.proofs.lemmas.List.{append-nil}
use Rattle.monoid.specs.declared.int.Int.{Int}
use Rattle.grammar.specs.declared.occurrence.Operation.{Operation}
use Rattle.grammar.specs.declared.occurrence.Operation.TheVariants.{Sum, Max, Or, Lin, House}
use Rattle.rules.specs.Arithmetic.{infix_of}
use Rattle.rules.specs.Primitives.{infix_failure}
use Rattle.rules.specs.Joining.{HouseJoin, joining}
use Rattle.rules.specs.Run.{spent}
use Rattle.plan.specs.declared.table.Task.{Task}
use Rattle.plan.specs.declared.table.Task.TheVariants.{Operate, MakePair, First, Second, Bracket, Hollow, Index, Length, Range, Flat, Part, Scan, Reduce}
use Rattle.plan.specs.declared.table.Mark.{Mark}
use Rattle.plan.specs.declared.table.Mark.TheVariants.{LetEnd, Leaf, Variable, Bind, Group, Basic, IfFork, IfElse, IfJoin, EachFork, EachFilter, EachJoin}
use Rattle.plan.specs.declared.table.Free.{Free}
use Rattle.running.specs.Cells.{place}
use Rattle.running.specs.Machine.{State, st, Step, onto, stop, pay, tried, top, under, topmost, do_task, do_mark, do_scan, do_reduce, or_words, Outcome, refuse}
use Rattle.running.specs.Laws.{Paid, PaidLaw}
use Rattle.running.proofs.Bounds.{pair_paid, gather_paid, bracket_paid, range_paid, flat_paid, part_paid, scan_paid, scan_pairs_paid}

never : {A : Type 0} (r : Outcome) (m : State) → stop r ≡ onto m → A
never r m e = absurd cc

-- the heap as it was, and the charges
same : (B : ℕ) (m s m' : State) → s.heap ≡ m.heap → s.charged ≡ m.charged → onto s ≡ onto m' → Paid B m m'
same B m s m' eh ec e = grind (arith, common_steps, append-nil)

-- a block is written, and n charged
paid : (B p n : ℕ) (b : List Int) (m s m' : State) → s.heap ≡ m.heap ++ b → s.charged ≡ m.charged → length b ≤ 2 * n → pay B p n s ≡ onto m' →
    Paid B m m'
paid B p n b m s m' eh ec le e = by (leb (s.charged + n) B) (leb→le (s.charged + n) B) e
  where
    by : (t : Bool) → (T t → s.charged + n ≤ B) → cond t (onto (st s.pc (s.charged + n) s.heap s.ops s.env s.loops))
        (stop (refuse spent p)) ≡ onto m' → Paid B m m'
    by true k q =
        let is : st s.pc (s.charged + n) s.heap s.ops s.env s.loops ≡ m' = cc in
        let ch : s.charged + n ≡ m'.charged = ap (λ z. z.charged) is in
        record { block = b; after = sym (ap (λ z. z.heap) is) ∙ eh; cells = omega (arith, ec); budget = λ l. omega (arith, k tt) }
    by false k q = never (refuse spent p) m' q

unchanged : (B p n : ℕ) (m s m' : State) → s.heap ≡ m.heap → s.charged ≡ m.charged → pay B p n s ≡ onto m' → Paid B m m'
unchanged B p n m s m' eh ec e = paid B p n [] m s m' (eh ∙ sym (append-nil m.heap)) ec (omega arith) e

-- what is tried goes on, or the step stops
trying : {A : Type 0} (B k p : ℕ) (w : Option A) (f : A → Step) (m m' : State) → ((a : A) → w ≡ some a → f a ≡ onto m' → Paid B m m') →
    tried k p w f ≡ onto m' → Paid B m m'
trying B k p none f m m' g e = never (refuse k p) m' e
trying B k p (some a) f m m' g e = g a refl e

deciding : (B : ℕ) (t : Bool) (x y : Step) (m m' : State) → (x ≡ onto m' → Paid B m m') → (y ≡ onto m' → Paid B m m') → cond t x y ≡ onto m' →
    Paid B m m'
deciding B true x y m m' f g e = f e
deciding B false x y m m' f g e = g e

module _ (B : ℕ) (H : HouseJoin) (p : ℕ) (m m' : State) where
  scan_pays : (f : Operation) → do_scan B H f p m ≡ onto m' → Paid B m m'
  scan_pays Sum e = paid B p _ _ m _ m' refl refl (scan_paid (joining H Sum) m.heap (top m)) e
  scan_pays Max e = paid B p _ _ m _ m' refl refl (scan_paid (joining H Max) m.heap (top m)) e
  scan_pays Or e = paid B p _ _ m _ m' refl refl (scan_paid or_words m.heap (top m)) e
  scan_pays Lin e = grind (arith, common_steps, paid, scan_pairs_paid)
  scan_pays House e = paid B p _ _ m _ m' refl refl (scan_paid H m.heap (top m)) e

  reduce_pays : (f : Operation) → do_reduce B H f p m ≡ onto m' → Paid B m m'
  reduce_pays Sum e = unchanged B p _ m _ m' refl refl e
  reduce_pays Max e = unchanged B p _ m _ m' refl refl e
  reduce_pays Or e = unchanged B p _ m _ m' refl refl e
  reduce_pays Lin e = paid B p _ _ m _ m' refl refl (omega arith) e
  reduce_pays House e = unchanged B p _ m _ m' refl refl e

  task_pays : (t : Task) → do_task B H t p m ≡ onto m' → Paid B m m'
  task_pays (Operate f) e = trying B (infix_failure f) p (infix_of f (under m) (top m)) _ m m' (λ v _ q. unchanged B p 4 m _ m' refl refl q) e
  task_pays (MakePair x y) e = grind (arith, common_steps, paid, pair_paid)
  task_pays (First x) e = unchanged B p _ m _ m' refl refl e
  task_pays (Second x) e = unchanged B p _ m _ m' refl refl e
  task_pays (Bracket k x) e = paid B p _ _ m _ m' refl refl (bracket_paid m.heap x (topmost k m)) e
  task_pays Hollow e = paid B p 2 _ m _ m' refl refl (omega arith) e
  task_pays (Index x) e = search (rules, arith, deciding, unchanged, never)
  task_pays Length e = unchanged B p _ m _ m' refl refl e
  task_pays Range e = paid B p _ _ m _ m' refl refl (range_paid (place (top m))) e
  task_pays Flat e = paid B p _ _ m _ m' refl refl (flat_paid m.heap (top m)) e
  task_pays (Part x) e = grind (arith, common_steps, trying, paid, part_paid)
  task_pays (Scan f) e = scan_pays f e
  task_pays (Reduce f) e = reduce_pays f e

  mark_pays : (fs : List Free) (k : Mark) → do_mark B H fs k p m ≡ onto m' → Paid B m m'
  mark_pays fs LetEnd e = unchanged B p 1 m _ m' refl refl e
  mark_pays fs (Leaf k) e = unchanged B p 1 m _ m' refl refl e
  mark_pays fs (Variable x) e = unchanged B p 1 m _ m' refl refl e
  mark_pays fs Bind e = same B m _ m' refl refl e
  mark_pays fs Group e = unchanged B p 1 m _ m' refl refl e
  mark_pays fs (Basic t) e = task_pays t e
  mark_pays fs (IfFork j s) e = unchanged B p _ m _ m' refl refl e
  mark_pays fs (IfElse j) e = same B m _ m' refl refl e
  mark_pays fs (IfJoin x) e = unchanged B p _ m _ m' refl refl e
  mark_pays fs (EachFork j s) e = unchanged B p _ m _ m' refl refl e
  mark_pays fs (EachFilter j) e = same B m _ m' refl refl e
  mark_pays fs (EachJoin j x) e = search (rules, arith, deciding, paid, gather_paid, same)

pub paid_law : PaidLaw
paid_law H B os fs m m' e = grind (arith, common_steps, deciding, mark_pays, never)
