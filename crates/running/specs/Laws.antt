-- What the machine's run of a table comes to.
use Rattle.std.specs.Prelude.{◌≡◌, ℕ, ◌+◌, ◌*◌, ◌<◌, ◌≤◌, List, ◌++◌, length}
use Rattle.monoid.specs.declared.int.Int.{Int}
use Rattle.refusal.specs.declared.Refusal.{Refusal}
use Rattle.types.specs.Types.{Ty}
use Rattle.lang.specs.Values.{Val}
use Rattle.lang.specs.Expr.{Expr}
use Rattle.rules.specs.Environment.{Env}
use Rattle.rules.specs.Joining.{HouseJoin}
use Rattle.rules.specs.Outcome.{Work, ok, fail}
use Rattle.rules.specs.Outcome.{refusal}
use Rattle.rules.specs.Direct.{direct}
use Rattle.plan.specs.declared.table.Entry.{Entry}
use Rattle.plan.specs.declared.table.Free.{Free}
use Rattle.plan.specs.Planned.{Planned}
use Rattle.running.specs.Machine.{State, Outcome, answer, refuse, st, onto, step, exec}
use Rattle.running.specs.Words.{limit, Word, Kept}

-- what the rules say is what came out: the value's word with the work, or the refusal
pub data Says (h : List Int) (t : Ty) : Work Refusal (Val t) → Outcome → Type 0 where
  value : {v : Val t} {w : Int} {d : ℕ} → Word h t w v → Says h t (ok (v, d)) (answer w d)
  refused : {n p : ℕ} → Says h t (fail (refusal n p)) (refuse n p)

-- enough steps for a run under the budget B
abbrev pub fuel : ℕ → ℕ
fuel B = 3 * B + 4

-- A table that has an expression is run from its first entry with words for the variables, under a budget so small that all places have words:
-- the run ends as the rules say of the expression, for the values that the words stand for.
abbrev pub RunningLaw : Type 0
RunningLaw =
    (H : HouseJoin) (B : ℕ) (os : List Entry) (fs : List Free) (Γ : List Ty) (t : Ty) (x : Expr Γ t) (ρ : Env Γ) (h o e l : List Int) →
    Planned os fs Γ t x 0 (length os) → Kept h Γ e ρ → length h + 2 * B < limit → length o + B < limit →
    Says (exec B H (fuel B) os fs (st 0 0 h o e l)).1 t (direct H B x ρ 0) (exec B H (fuel B) os fs (st 0 0 h o e l)).0

-- what a step writes stands after all the cells, and is paid for: at most two cells for each unit that is charged
pub record Paid (B : ℕ) (m m' : State) : Type 0 where
  pub block : List Int
  pub after : m'.heap ≡ m.heap ++ block
  pub cells : length block + 2 * m.charged ≤ 2 * m'.charged
  pub budget : m.charged ≤ B → m'.charged ≤ B

-- whatever the words are
abbrev pub PaidLaw : Type 0
PaidLaw = (H : HouseJoin) (B : ℕ) (os : List Entry) (fs : List Free) (m m' : State) → step B H os fs m ≡ onto m' → Paid B m m'
