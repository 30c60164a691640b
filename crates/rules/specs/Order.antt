-- The places of an expression's occurrences in the order of evaluation: operands from the left, then the node; a fork before what it
-- leads to, its join after; the list of a comprehension, its filter, its body.
use Rattle.std.specs.Prelude.{◌≡◌, ℕ, List, [], ◌∷◌, ◌++◌, map}
use Rattle.refusal.specs.declared.Refusal.{Refusal}
use Rattle.types.specs.Types.{Ty}
use Rattle.lang.specs.Expr.{Expr, Args, con, group, var, bind, prim, ite, each, over, nil, more}
use Rattle.rules.specs.Outcome.{ok, fail}
use Rattle.rules.specs.Environment.{Env}
use Rattle.rules.specs.Joining.{HouseJoin}
use Rattle.rules.specs.Trace.{Trace}
use Rattle.rules.specs.Traces.{batch_trace}

unfoldable mutual
  pub places : {Γ : List Ty} {t : Ty} → Expr Γ t → List ℕ
  places (con p k) = p ∷ []
  places (group p e) = places e ++ (p ∷ [])
  places (var p x) = p ∷ []
  places (bind p e b) = places e ++ (places b ++ (p ∷ []))
  places (prim p o es) = operand_places es ++ (p ∷ [])
  places (ite p c a b) = places c ++ (p ∷ (places a ++ (places b ++ (p ∷ []))))
  places (each p s f b) = places s ++ (p ∷ (places f ++ (places b ++ (p ∷ []))))
  places (over p s b) = places s ++ (p ∷ (places b ++ (p ∷ [])))

  pub operand_places : {Γ ts : List Ty} → Args Γ ts → List ℕ
  operand_places nil = []
  operand_places (more e es) = places e ++ operand_places es

-- the occurrences of t are those of the places ps in order: all, or all up to the one that fails
pub record InOrder {A : Type 0} (t : Trace A) (ps : List ℕ) : Type 0 where
  pub whole : (a : A) → t.1 ≡ ok a → ps ≡ map (λ x. x.place) t.0
  pub broken : (f : Refusal) → t.1 ≡ fail f → (rest : List ℕ) × (ps ≡ map (λ x. x.place) t.0 ++ (f.place ∷ rest))

-- each occurrence of an expression stands once in a vector run
abbrev pub OrderLaw : Type 0
OrderLaw = (H : HouseJoin) (Γ : List Ty) (t : Ty) (e : Expr Γ t) (ρs : List (Env Γ)) → InOrder (batch_trace H e ρs) (places e)
