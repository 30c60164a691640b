-- What it is for the machine to do what a run's rule says, piece by piece.
use Rattle.std.proofs.Common.{◌≡◌, ℕ, ◌+◌, ◌-◌, ◌*◌, ◌≤◌, Bool, true, false, cond, T, leb, List, length, ap, ◌∙◌, subst, add_assoc, zero-add, one-add, arith, leb→le}
use Rattle.std.proofs.lemmas.Grind.{common_steps}
use Rattle.std.proofs.lemmas.Bool.{lt-ltb, cond-true}
use Rattle.monoid.specs.declared.int.Int.{Int}
use Rattle.refusal.specs.declared.Refusal.{Refusal}
use Rattle.rules.specs.Outcome.{Outcome as Answer, ok, fail}
use Rattle.rules.specs.Outcome.{refusal}
use Rattle.rules.specs.Run.{Run, go, charge, charged, spent}
use Rattle.rules.specs.Joining.{HouseJoin}
use Rattle.plan.specs.declared.table.Mark.{Mark}
use Rattle.plan.specs.declared.table.Entry.{Entry}
use Rattle.plan.specs.declared.table.Free.{Free}
use Rattle.plan.specs.Planned.{Stands}
use Rattle.running.specs.Machine.{State, st, Step, onto, stop, step, exec, pay, do_mark, Outcome, refuse}

-- d is within the budget, and the cells are at most K and two for each charge
pub record Good (B K d : ℕ) (h : List Int) : Type 0 where
  pub paid : d ≤ B
  pub cells : length h ≤ K + 2 * d

module _ (B K : ℕ) (H : HouseJoin) (os : List Entry) (fs : List Free) where
  -- n steps lead from one state to the other
  pub record Goes (n : ℕ) (m m' : State) : Type 0 where
    pub goes : (k : ℕ) → exec B H (n + k) os fs m ≡ exec B H k os fs m'

  -- within n steps the outcome is r
  pub record Stops (n : ℕ) (m : State) (r : Outcome) : Type 0 where
    pub stops : (k : ℕ) → (exec B H (n + k) os fs m).0 ≡ r

  pub goes_none : (m : State) → Goes 0 m m
  goes_none m = record { goes = λ k. ap (λ n. exec B H n os fs m) (zero-add k) }

  pub goes_then : {a b : ℕ} {m m' m'' : State} → Goes a m m' → Goes b m' m'' → Goes (a + b) m m''
  goes_then {a = a} {b = b} {m = m} f g = record { goes = λ k. ap (λ n. exec B H n os fs m) (add_assoc a b k) ∙ f.goes (b + k) ∙ g.goes k }

  pub stops_then : {a b : ℕ} {m m' : State} {r : Outcome} → Goes a m m' → Stops b m' r → Stops (a + b) m r
  stops_then {a = a} {b = b} {m = m} f g =
      record { stops = λ k. ap (λ n. (exec B H n os fs m).0) (add_assoc a b k) ∙ ap (λ q. q.0) (f.goes (b + k)) ∙ g.stops k }

  exec_by : ℕ → State → Step → Outcome × List Int
  exec_by n m s = elim s [ onto m' ↦ exec B H n os fs m' | stop r ↦ (r, m.heap) ]

  pub goes_one : (m m' : State) → step B H os fs m ≡ onto m' → Goes 1 m m'
  unfolding exec exec_by
  goes_one m m' e = record { goes = λ k. ap (λ n. exec B H n os fs m) (one-add k) ∙ ap (exec_by k m) e }

  pub stops_one : (m : State) (r : Outcome) → step B H os fs m ≡ stop r → Stops 1 m r
  unfolding exec exec_by
  stops_one m r e = record { stops = λ k. ap (λ n. (exec B H n os fs m).0) (one-add k) ∙ ap (λ s. (exec_by k m s).0) e }

  -- from m, with c charged, the machine does what the rule says: the same refusal; or it comes, with the same charges, to the state
  -- that `out` names, where P holds. It takes at most three steps for each unit charged, less the slack s, or z if it refuses.
  pub data Meets {A X : Type 0} (s z c : ℕ) (m : State) (out : ℕ → List Int → A → State) (P : List Int → A → X → Type 0) : Answer Refusal (X × ℕ) →
      Type 0 where
    fails : {a p : ℕ} (n : ℕ) → Stops n m (refuse a p) → n + z + 3 * c ≤ 3 * B + 3 → Meets s z c m out P (fail (refusal a p))
    does : {x : X} {d : ℕ} (n : ℕ) (h : List Int) (a : A) → Goes n m (out d h a) → n + s + 3 * c ≤ 3 * d → Good B K d h → P h a x →
        Meets s z c m out P (ok (x, d))

  meets_after : {A X : Type 0} {s z c d : ℕ} {m m' : State} {out : ℕ → List Int → A → State} {P : List Int → A → X →
      Type 0} {w : Answer Refusal (X × ℕ)} (r y u n : ℕ) →
      Goes n m m' → n + u + 3 * c ≤ 3 * d → r ≤ u + s → y ≤ u + z → Meets s z d m' out P w → Meets r y c m out P w
  meets_after r y u n g le q q' (fails k t l) = fails (n + k) (stops_then g t) (omega arith)
  meets_after r y u n g le q q' (does k h a t l lb p) = does (n + k) h a (goes_then g t) (omega arith) lb p

  -- one piece after another
  pub meets_bind : {A C X Y : Type 0} {s z u v c : ℕ} {m : State} {out : ℕ → List Int → A → State} {out' : ℕ → List Int → C → State}
      {P : List Int → A → X → Type 0} {Q : List Int → C → Y → Type 0} {w : Answer Refusal (X × ℕ)} {f : X → Run Y} {r y : ℕ} →
      r ≤ s + u → y ≤ z → y ≤ s + v → Meets s z c m out P w →
      ((d : ℕ) (h : List Int) (a : A) (x : X) → Good B K d h → s + 3 * c ≤ 3 * d → P h a x → Meets u v d (out d h a) out' Q (f x d)) →
      Meets r y c m out' Q (go w f)
  meets_bind q q' q'' (fails n t l) k = fails n t (omega arith)
  meets_bind {s = s} {r = r} {y = y} q q' q'' (does {x = x} {d = d} n h a t l lb p) k = meets_after r y s n t l q q'' (k d h a x lb (omega arith) p)

  -- the same, with a step that charges nothing between
  pub meets_bind_step : {A C X Y : Type 0} {s z u v c : ℕ} {m : State} {out : ℕ → List Int → A → State} {out' : ℕ → List Int → C → State}
      {P : List Int → A → X → Type 0} {Q : List Int → C → Y → Type 0} {w : Answer Refusal (X × ℕ)} {f : X → Run Y} {r y : ℕ} →
      1 ≤ s → r + 1 ≤ s + u → y ≤ z → y + 1 ≤ s + v → Meets s z c m out P w →
      ((d : ℕ) (h : List Int) (a : A) (x : X) → Good B K d h → s + 3 * c ≤ 3 * d → P h a x →
      (m' : State) × (step B H os fs (out d h a) ≡ onto m') × Meets u v d m' out' Q (f x d)) →
      Meets r y c m out' Q (go w f)
  meets_bind_step o q q' q'' (fails n t l) k = fails n t (omega arith)
  meets_bind_step {s = s} {out = out} {r = r} {y = y'} o q q' q'' (does {x = x} {d = d} n h a t l lb p) k =
      let y = k d h a x lb (omega arith) p in
      meets_after r y' (s - 1) (n + 1) (goes_then t (goes_one (out d h a) y.0 y.1)) (omega arith) (omega arith) (omega arith) y.2

  -- a step that charges nothing
  pub meets_step : {A X : Type 0} {s z c : ℕ} {m : State}
      (m' : State) {out : ℕ → List Int → A → State} {P : List Int → A → X → Type 0} {w : Answer Refusal (X × ℕ)} {r y : ℕ} →
      r + 1 ≤ s → y + 1 ≤ z → step B H os fs m ≡ onto m' → Meets s z c m' out P w → Meets r y c m out P w
  meets_step {m = m} m' q q' e (fails k t l) = fails (1 + k) (stops_then (goes_one m m' e) t) (omega arith)
  meets_step {m = m} m' q q' e (does k h a t l lb p) = does (1 + k) h a (goes_then (goes_one m m' e) t) (omega arith) lb p

  pub meets_ret : {A X : Type 0} {z c : ℕ} {m : State} {out : ℕ → List Int → A → State} {P : List Int → A → X → Type 0} {x : X} (h : List Int)
      (a : A) →
      m ≡ out c h a → Good B K c h → P h a x → Meets 0 z c m out P (ok (x, c))
  meets_ret {m = m} h a e lb p = does 0 h a (subst (Goes 0 m) e (goes_none m)) (omega arith) lb p

  paying : ℕ → ℕ → State → Bool → Step
  paying p n m b = cond b (onto (st m.pc (m.charged + n) m.heap m.ops m.env m.loops)) (stop (refuse spent p))

  -- the charge at a node's end; the cells grow by two for each unit at most
  pub meets_pay : {A X : Type 0} {c : ℕ} {m : State} {out : ℕ → List Int → A → State} {P : List Int → A → X → Type 0} (x : X) (p n : ℕ) (m' : State)
      (k h : List Int) (a : A) →
      step B H os fs m ≡ pay B p n m' → m'.charged ≡ c → 1 ≤ n → Good B K c k → length h ≤ length k + 2 * n →
      st m'.pc (m'.charged + n) m'.heap m'.ops m'.env m'.loops ≡ out (c + n) h a → (c + n ≤ B → P h a x) →
      Meets 2 2 c m out P (charge B p n x c)
  unfolding paying
  meets_pay {c = c} {m = m} {out = out} {P = P} x p n m' k h a e ch one lb grow is q =
      by (leb (c + n) B) (leb→le (c + n) B) (e ∙ ap (λ k. paying p n m' (leb (k + n) B)) ch)
    where
      by : (b : Bool) → (T b → c + n ≤ B) → step B H os fs m ≡ paying p n m' b → Meets 2 2 c m out P (charged b p (c + n) x)
      by true le e =
          let l : c + n ≤ B = le tt in
          does 1 h a (subst (Goes 1 m) is (goes_one m _ e)) (omega arith) (record { paid = l; cells = omega (arith, lb.cells) }) (q l)
      by false le e = fails 1 (stops_one m _ e) (omega (arith, lb.paid))

  -- a charge, and what comes after it
  pub meets_pay-then : {A X Y : Type 0} {u v c : ℕ} {m : State} {out : ℕ → List Int → A → State} {Q : List Int → A → Y → Type 0} (x : X)
      (f : X → Run Y) (p n : ℕ) (m' : State) →
      step B H os fs m ≡ pay B p n m' → m'.charged ≡ c → 1 ≤ n → Good B K c m'.heap →
      (Good B K (c + n) m'.heap → Meets u v (c + n) (st m'.pc (m'.charged + n) m'.heap m'.ops m'.env m'.loops) out Q
      (f x (c + n))) →
      Meets 2 2 c m out Q (go (charge B p n x c) f)
  unfolding paying
  meets_pay-then {u = u} {c = c} {m = m} {out = out} {Q = Q} x f p n m' e ch one lb k =
      by (leb (c + n) B) (leb→le (c + n) B) (e ∙ ap (λ k. paying p n m' (leb (k + n) B)) ch)
    where
      by : (b : Bool) → (T b → c + n ≤ B) → step B H os fs m ≡ paying p n m' b → Meets 2 2 c m out Q (go (charged b p (c + n) x) f)
      by true le e =
          let l : c + n ≤ B = le tt in
          meets_after 2 2 2 1 (goes_one m _ e) (omega arith) (omega arith) (omega arith) (k (record { paid = l; cells = omega (arith, lb.cells) }))
      by false le e = fails 1 (stops_one m _ e) (omega (arith, lb.paid))

  -- the machine is at the entry
  pub at_mark : {i p : ℕ} {k : Mark} (c : ℕ) (h o e l : List Int) → Stands os i k p →
      step B H os fs (st i c h o e l) ≡ do_mark B H fs k p (st i c h o e l)
  at_mark {i = i} c h o e l r = grind (arith, common_steps, cond-true, lt-ltb)

  -- the same, said of less
  pub meets_as : {A X : Type 0} {s z c : ℕ} {m : State} {out : ℕ → List Int → A → State} {P Q : List Int → A → X →
      Type 0} {w : Answer Refusal (X × ℕ)} →
      Meets s z c m out P w → ((h : List Int) (a : A) (x : X) → P h a x → Q h a x) → Meets s z c m out Q w
  meets_as (fails n t l) k = fails n t l
  meets_as (does {x = x} n h a t l lb p) k = does n h a t l lb (k h a x p)

  -- the run's end
  pub ends_one : (k : ℕ) (m : State) (r : Outcome) → step B H os fs m ≡ stop r → exec B H (1 + k) os fs m ≡ (r, m.heap)
  unfolding exec exec_by
  ends_one k m r e = ap (λ n. exec B H n os fs m) (one-add k) ∙ ap (exec_by k m) e
