-- What it is for a task to do what the rules say of its primitive.
use Rattle.std.proofs.Common.{◌≡◌, ℕ, ◌+◌, ◌*◌, ◌<◌, ◌≤◌, List, [], ◌∷◌, length}
use mathlib.Core.Option.{Option, none, some}
use Rattle.monoid.specs.declared.int.Int.{Int}
use Rattle.types.specs.Types.{Ty}
use Rattle.lang.specs.Values.{Val}
use Rattle.lang.specs.Expr.{Op}
use Rattle.rules.specs.Environment.{Env}
use Rattle.rules.specs.Joining.{HouseJoin}
use Rattle.rules.specs.Primitives.{apply, failure}
use Rattle.rules.specs.Charges.{prim_charge}
use Rattle.plan.specs.Boxes.{task_of}
use Rattle.running.specs.Machine.{st, Step, stop, pay, do_task, refuse}
use Rattle.running.specs.Words.{limit, Word}
use Rattle.running.proofs.Holding.{Sub}

-- the words of operands stand on o, the last uppermost: o'
pub data Pushed (h : List Int) : (ts : List Ty) → List Int → Env ts → List Int → Type 0 where
  p_nil : {o : List Int} → Pushed h [] o tt o
  p_more : {ts : List Ty} {o o' : List Int} {vs : Env ts} (t : Ty) (w : Int) (v : Val t) → Word h t w v → Pushed h ts (w ∷ o) vs o' →
      Pushed h (t ∷ ts) o (v, vs) o'

-- there are words for all places of the cells, and for the charge
pub record Fits (h : List Int) (n : ℕ) : Type 0 where
  pub cells : length h < limit
  pub charge : n < limit

-- a step refuses, or charges n and leaves the value's word; the cells grow by two for each unit at most
pub data Does (B : ℕ) (t : Ty) (k p i c : ℕ) (h o e l : List Int) (n : Val t → ℕ) (s : Step) : Option (Val t) → Type 0 where
  refuses : s ≡ stop (refuse k p) → Does B t k p i c h o e l n s none
  puts : {v : Val t} (h' : List Int) (w : Int) → Sub h h' → length h' ≤ length h + 2 * n v → (Fits h' (n v) → Word h' t w v) →
      s ≡ pay B p (n v) (st (i + 1) c h' (w ∷ o) e l) → Does B t k p i c h o e l n s (some v)

abbrev pub Tasks : ℕ → HouseJoin → Type 0
Tasks B H =
    (ts : List Ty) (t : Ty) (f : Op ts t) (vs : Env ts) (p i c : ℕ) (h o o' e l : List Int) → Pushed h ts o vs o' →
    Does B t (failure f) p i c h o e l (λ v. prim_charge ts t vs v) (do_task B H (task_of f) p (st i c h o' e l)) (apply H f vs)
