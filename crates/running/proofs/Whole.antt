-- The whole run.
use Rattle.std.proofs.Common.{◌≡◌, ℕ, ◌+◌, ◌-◌, List, ◌∷◌, length, Err, sym, refl, ap, ◌∙◌, subst, arith}
use Rattle.std.proofs.lemmas.Grind.{common_steps}
use Rattle.std.proofs.lemmas.Bool.{cond-false, le-ltb}
use Rattle.monoid.specs.declared.int.Int.{Int}
use Rattle.refusal.specs.declared.Refusal.{Refusal}
use Rattle.types.specs.Types.{Ty}
use Rattle.lang.specs.Values.{Val}
use Rattle.rules.specs.Joining.{HouseJoin}
use Rattle.rules.specs.Outcome.{Work, fail}
use Rattle.rules.specs.Outcome.{refusal}
use Rattle.plan.specs.declared.table.Entry.{Entry}
use Rattle.plan.specs.declared.table.Free.{Free}
use Rattle.running.specs.declared.outcome.Halt.TheVariants.{Spent}
use Rattle.running.specs.Machine.{State, st, onto, stop, step, exec, Outcome, answer}
use Rattle.running.specs.Laws.{Says, value, refused, fuel, RunningLaw}
use Rattle.running.proofs.Meets.{Meets, fails, does, goes_one, ends_one}
use Rattle.running.proofs.Forks.{Left, on_top}
use Rattle.running.proofs.Runs.{runs}
use Rattle.running.proofs.Tasks.{tasks}

module _ (B : ℕ) (H : HouseJoin) (os : List Entry) (fs : List Free) where
  at_end : (d : ℕ) (h o e l : List Int) (w : Int) → step B H os fs (st (length os) d h (w ∷ o) e l) ≡ stop (answer w d)
  at_end d h o e l w = grind (arith, common_steps, cond-false, le-ltb)

  said : {t : Ty} {w : Work Refusal (Val t)} (r r' : Outcome × List Int) → r ≡ r' → Says r'.1 t w r'.0 → Says r.1 t w r.0
  said {t = t} {w = w} r r' e s = subst (λ q. Says q.1 t w q.0) (sym e) s

  ended : {t : Ty} (K : ℕ) (h o e l : List Int) (m : State) {w : Work Refusal (Val t)} →
      Meets B K H os fs 2 2 0 m (on_top (length os) o e l) (Left h t) w →
      Says (exec B H (fuel B) os fs m).1 t w (exec B H (fuel B) os fs m).0
  ended {t = t} K h o e l m (fails {a = a} {p = p} n s le) =
      let k : fuel B ≡ n + (fuel B - n) = omega arith in
      subst (λ r. Says (exec B H (fuel B) os fs m).1 t (fail (refusal a p)) r)
      (sym (ap (λ i. (exec B H i os fs m).0) k ∙ s.stops (fuel B - n))) refused
  ended {t = t} K h o e l m (does {x = v} {d = d} n h' w g le lb q) =
      let k : fuel B ≡ n + (1 + (fuel B - n - 1)) = omega (arith, lb.paid) in
      said (exec B H (fuel B) os fs m) (answer w d, h')
      (ap (λ i. exec B H i os fs m) k ∙ g.goes (1 + (fuel B - n - 1)) ∙
      ends_one B K H os fs (fuel B - n - 1) (st (length os) d h' (w ∷ o) e l) (answer w d) (at_end d h' o e l w)) (value q.val)

  -- a step, as the loop of a run takes it
  pub exec-go : (n k : ℕ) (m m' : State) → n ≡ k + 1 → step B H os fs m ≡ onto m' → exec B H n os fs m ≡ exec B H k os fs m'
  exec-go n k m m' e s = let f : n ≡ 1 + k = omega arith in ap (λ i. exec B H i os fs m) f ∙ (goes_one B 0 H os fs m m' s).goes k

  pub exec_stop : (n k : ℕ) (m : State) (r : Outcome) → n ≡ k + 1 → step B H os fs m ≡ stop r → exec B H n os fs m ≡ (r, m.heap)
  exec_stop n k m r e s = let f : n ≡ 1 + k = omega arith in ap (λ i. exec B H i os fs m) f ∙ ends_one B 0 H os fs k m r s

  pub exec_none : (m : State) → exec B H 0 os fs m ≡ (Err Spent, m.heap)
  unfolding exec
  exec_none m = refl

pub running_law : RunningLaw
running_law H B os fs Γ t x ρ h o e l planned kept cells deep =
    ended B H os fs (length h) h o e l (st 0 0 h o e l)
    (runs B (length h) (length o) H os fs (record { cells = cells; deep = deep }) (tasks B H) planned ρ 0 h o e l
    (record { paid = omega arith; cells = omega arith }) (omega arith) kept)
