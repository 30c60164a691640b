-- The numbers of a run's refusals.
use Rattle.std.specs.Prelude.{◌≡◌, ℕ, List}
use Rattle.refusal.specs.declared.Refusal.{Refusal}
use Rattle.types.specs.Types.{Ty}
use Rattle.lang.specs.Expr.{Expr}
use Rattle.rules.specs.Outcome.{fail}
use Rattle.rules.specs.Environment.{Env}
use Rattle.rules.specs.Joining.{HouseJoin}
use Rattle.rules.specs.Eval.{eval}
use Rattle.rules.specs.Direct.{direct}
use Rattle.rules.specs.Batch.{batch}

-- a divisor of 0, a place outside a list, lengths that do not cut a list
pub data Failing : ℕ → Type 0 where
  zero_divisor : Failing 18
  no_place : Failing 19
  no_parts : Failing 20

-- or a budget that is passed
pub data Refusing : ℕ → Type 0 where
  over_budget : Refusing 17
  failing : {n : ℕ} → Failing n → Refusing n

pub record NumbersLaw : Type 0 where
  pub rules : (H : HouseJoin) (Γ : List Ty) (t : Ty) (e : Expr Γ t) (ρ : Env Γ) (f : Refusal) → eval H e ρ ≡ fail f → Failing f.number
  pub directs : (H : HouseJoin) (B : ℕ) (Γ : List Ty) (t : Ty) (e : Expr Γ t) (ρ : Env Γ) (f : Refusal) → direct H B e ρ 0 ≡ fail f →
      Refusing f.number
  pub vectors : (H : HouseJoin) (B : ℕ) (Γ : List Ty) (t : Ty) (e : Expr Γ t) (ρs : List (Env Γ)) (f : Refusal) → batch H B e ρs 0 ≡ fail f →
      Refusing f.number
