-- The two kinds of run answer what the rules say, where that is within the budget.
use Rattle.std.specs.Prelude.{◌≡◌, ℕ, ◌+◌, ◌≤◌, ◌⊎◌, ◌↔◌, List, [], ◌∷◌, length, ◌≢◌}
use Rattle.refusal.specs.declared.Refusal.{Refusal}
use Rattle.types.specs.Types.{Ty}
use Rattle.lang.specs.Values.{Val, sum_by}
use Rattle.lang.specs.Expr.{Expr}
use Rattle.rules.specs.Outcome.{refusal, Outcome, ok, fail, Work}
use Rattle.rules.specs.Environment.{Env}
use Rattle.rules.specs.Joining.{HouseJoin}
use Rattle.rules.specs.Eval.{eval}
use Rattle.rules.specs.Run.{Run, spent}
use Rattle.rules.specs.Direct.{direct}
use Rattle.rules.specs.Batch.{batch}
use Rattle.rules.specs.Trace.{Trace, total, total_at, Over}
use Rattle.rules.specs.Traces.{direct_trace, batch_trace}

-- each evaluation answers; vs are the values, and w is all their work together
pub data Each {R A : Type 0} (f : R → Work Refusal A) : List R → List A → ℕ → Type 0 where
  no_more : Each f [] [] 0
  one_more : {ρ : R} {ρs : List R} {v : A} {vs : List A} {w n : ℕ} → f ρ ≡ ok (v, w) → Each f ρs vs n → Each f (ρ ∷ ρs) (v ∷ vs) (w + n)

-- a vector run, with the charges c behind it, answers exactly when each evaluation answers and all their work is within the budget
abbrev pub BatchLaw : Type 0
BatchLaw =
    (H : HouseJoin) (B : ℕ) (Γ : List Ty) (t : Ty) (e : Expr Γ t) (ρs : List (Env Γ)) (c : ℕ) → c ≤ B → (vs : List (Val t)) (d : ℕ) →
    (batch H B e ρs c ≡ ok (vs, d)) ↔ ((w : ℕ) × Each (λ ρ. eval H e ρ) ρs vs w × (d ≡ c + w) × (d ≤ B))

-- a direct run answers exactly when the rules do and the work is within the budget
abbrev pub DirectLaw : Type 0
DirectLaw =
    (H : HouseJoin) (B : ℕ) (Γ : List Ty) (t : Ty) (e : Expr Γ t) (ρ : Env Γ) (v : Val t) (w : ℕ) →
    (direct H B e ρ 0 ≡ ok (v, w)) ↔ ((eval H e ρ ≡ ok (v, w)) × (w ≤ B))

-- what a budget makes of a run's occurrences, with the charges c before them: the value at the end, if all charges are within the budget;
-- 17 at the first with which they pass it; the failure at the end, if none does
pub record Judged (B : ℕ) {A : Type 0} (c : ℕ) (t : Trace A) (r : Outcome Refusal (A × ℕ)) : Type 0 where
  pub answers : (a : A) (d : ℕ) → (r ≡ ok (a, d)) ↔ ((t.1 ≡ ok a) × (d ≡ c + total t.0) × (d ≤ B))
  pub refuses : (f : Refusal) →
      (r ≡ fail f) ↔ (((p : ℕ) × Over B c t.0 p × (f ≡ refusal spent p)) ⊎ ((t.1 ≡ fail f) × (c + total t.0 ≤ B)))

abbrev pub BatchTraceLaw : Type 0
BatchTraceLaw =
    (H : HouseJoin) (B : ℕ) (Γ : List Ty) (t : Ty) (e : Expr Γ t) (ρs : List (Env Γ)) (c : ℕ) → c ≤ B →
    Judged B c (batch_trace H e ρs) (batch H B e ρs c)

abbrev pub DirectTraceLaw : Type 0
DirectTraceLaw =
    (H : HouseJoin) (B : ℕ) (Γ : List Ty) (t : Ty) (e : Expr Γ t) (ρ : Env Γ) (c : ℕ) → c ≤ B →
    Judged B c (direct_trace H e ρ) (direct H B e ρ c)

-- the rules are the same without a budget: work is the sum of all charges
pub record Summed {A : Type 0} (t : Trace A) (r : Work Refusal A) : Type 0 where
  pub answers : (a : A) (w : ℕ) → (r ≡ ok (a, w)) ↔ ((t.1 ≡ ok a) × (w ≡ total t.0))
  pub fails : (f : Refusal) → (r ≡ fail f) ↔ (t.1 ≡ fail f)

abbrev pub WorkLaw : Type 0
WorkLaw = (H : HouseJoin) (Γ : List Ty) (t : Ty) (e : Expr Γ t) (ρ : Env Γ) → Summed (direct_trace H e ρ) (eval H e ρ)

-- at each place a vector run that answers is charged what its evaluations are charged there, one by one
abbrev pub PlacesLaw : Type 0
PlacesLaw =
    (H : HouseJoin) (Γ : List Ty) (t : Ty) (e : Expr Γ t) (ρs : List (Env Γ)) (vs : List (Val t)) → (batch_trace H e ρs).1 ≡ ok vs →
    (p : ℕ) → total_at p (batch_trace H e ρs).0 ≡ sum_by (λ ρ. total_at p (direct_trace H e ρ).0) ρs

-- each occurrence that is evaluated is charged
abbrev pub CountLaw : Type 0
CountLaw =
    (H : HouseJoin) (Γ : List Ty) (t : Ty) (e : Expr Γ t) (ρ : Env Γ) (v : Val t) (w : ℕ) →
    eval H e ρ ≡ ok (v, w) → length (direct_trace H e ρ).0 ≤ w

-- with more budget an answer stays, and so does a failure
pub record Lasting {A : Type 0} (run : ℕ → Run A) : Type 0 where
  pub answers : (B B' : ℕ) → B ≤ B' → (a : A) (w : ℕ) → run B 0 ≡ ok (a, w) → run B' 0 ≡ ok (a, w)
  pub failures : (B B' : ℕ) → B ≤ B' → (f : Refusal) → (f.number ≢ spent) → run B 0 ≡ fail f → run B' 0 ≡ fail f

abbrev pub MoreLaw : Type 0
MoreLaw =
    (H : HouseJoin) (Γ : List Ty) (t : Ty) (e : Expr Γ t) →
    ((ρ : Env Γ) → Lasting (λ B. direct H B e ρ)) × ((ρs : List (Env Γ)) → Lasting (λ B. batch H B e ρs))

-- a vector run for one environment answers what the direct run answers
abbrev pub SameLaw : Type 0
SameLaw =
    (H : HouseJoin) (B : ℕ) (Γ : List Ty) (t : Ty) (e : Expr Γ t) (ρ : Env Γ) (v : Val t) (w : ℕ) →
    (batch H B e (ρ ∷ []) 0 ≡ ok (v ∷ [], w)) ↔ (direct H B e ρ 0 ≡ ok (v, w))

-- where nothing is evaluated nothing is charged and nothing fails
abbrev pub IdleLaw : Type 0
IdleLaw = (H : HouseJoin) (B : ℕ) (Γ : List Ty) (t : Ty) (e : Expr Γ t) (c : ℕ) → c ≤ B → batch H B e [] c ≡ ok ([], c)
