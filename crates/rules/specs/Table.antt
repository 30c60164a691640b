-- Worked runs: a program, a house, an input, a budget; what the direct run and the vector run come to.
use Rattle.std.specs.Prelude.{◌≡◌, ℕ, List, [], ◌∷◌, codes}
use Rattle.refusal.specs.declared.Refusal.{Refusal}
use Rattle.monoid.specs.Ints.{int_zero}
use Rattle.monoid.specs.declared.int.Int.{Int}
use Rattle.lang.specs.Values.{Val}
use Rattle.lang.specs.Outcome as Checking
use Rattle.lang.specs.Check.{check}
use Rattle.rules.specs.Outcome.{refusal, Outcome, ok, fail}
use Rattle.rules.specs.Joining.{HouseJoin, latest, bits}
use Rattle.rules.specs.Direct.{direct}
use Rattle.rules.specs.Batch.{batch}
use Rattle.rules.specs.Programs.{Program, int_at, totals, shares, sums_before, one_map, house_result, two_cut, careful_shares, high, average}

pub record Row : Type 0 where
  pub program : Program
  pub house : HouseJoin
  -- the input's text and value
  pub given : List ℕ
  pub input : Val program.checked.parameter
  pub budget : ℕ
  -- what the runs answer: a value and its work, or a refusal
  pub directly : Outcome Refusal (Val program.checked.result × ℕ)
  pub as_vectors : Outcome Refusal (Val program.checked.result × ℕ)

abbrev pub of_one : {A : Type 0} → Outcome Refusal (A × ℕ) → Outcome Refusal (List A × ℕ)
of_one (ok p) = ok (p.0 ∷ [], p.1)
of_one (fail r) = fail r

pub record Stands (r : Row) : Type 0 where
  pub checks : check r.program.tree ≡ Checking.ok r.program.checked
  pub directs : direct r.house r.budget r.program.checked.body (r.input, tt) 0 ≡ r.directly
  pub vectors : batch r.house r.budget r.program.checked.body ((r.input, tt) ∷ []) 0 ≡ of_one r.as_vectors

abbrev Reply : Program → Type 0
Reply p = Outcome Refusal (Val p.checked.result × ℕ)

-- the direct run's reply and the vector run's
abbrev apart : (p : Program) → HouseJoin → List ℕ → Val p.checked.parameter → ℕ → Reply p → Reply p → Row
apart p house text v B r q = record { program = p; house = house; given = text; input = v; budget = B; directly = r; as_vectors = q }

-- both come to the same
abbrev agreed : (p : Program) → HouseJoin → List ℕ → Val p.checked.parameter → ℕ → Reply p → Row
agreed p house text v B r = apart p house text v B r r

abbrev most : ℕ
most = 20000

-- three players and the points of their games
abbrev points : List (List Int)
points = (int_at 1 ∷ int_at 2 ∷ []) ∷ [] ∷ (int_at 3 ∷ []) ∷ []

abbrev results : List Int
results = int_at 3 ∷ int_at 0 ∷ int_at 0 ∷ int_at 5 ∷ int_at 0 ∷ []

abbrev pub table : List Row
table =
    agreed totals latest (codes "[[1,2],[],[3]]") points 29 (ok (int_at 3 ∷ int_zero ∷ int_at 3 ∷ [], 29)) ∷
    agreed totals latest (codes "[[1,2],[],[3]]") points 28 (fail (refusal 17 24)) ∷
    apart totals latest (codes "[[1,2],[],[3]]") points 11 (fail (refusal 17 25)) (fail (refusal 17 36)) ∷
    agreed shares latest (codes "[1,1]") (int_at 1 ∷ int_at 1 ∷ []) 56 (ok (int_at 11 ∷ int_at 11 ∷ [], 56)) ∷
    apart shares latest (codes "[5,0]") (int_at 5 ∷ int_at 0 ∷ []) 100 (fail (refusal 19 35)) (fail (refusal 18 27)) ∷
    agreed shares latest (codes "[0]") (int_at 0 ∷ []) 10 (fail (refusal 18 27)) ∷
    agreed shares latest (codes "[0]") (int_at 0 ∷ []) 9 (fail (refusal 17 29)) ∷
    agreed sums_before latest (codes "[[],[4,5],[]]") ([] ∷ (int_at 4 ∷ int_at 5 ∷ []) ∷ [] ∷ []) most
    (ok ([] ∷ (int_zero ∷ int_at 4 ∷ []) ∷ [] ∷ [], 31)) ∷
    agreed sums_before latest (codes "[[1,2],[],[3]]") points most
    (ok ((int_zero ∷ int_at 1 ∷ []) ∷ [] ∷ (int_zero ∷ []) ∷ [], 35)) ∷
    agreed one_map latest (codes "[(2,1),(3,4)]") ((int_at 2, int_at 1) ∷ (int_at 3, int_at 4) ∷ []) most (ok ((int_at 6, int_at 7), 9)) ∷
    agreed house_result latest (codes "[3,0,0,5,0]") results most (ok (int_at 5, 9)) ∷
    agreed house_result bits (codes "[3,0,0,5,0]") results most (ok (int_at 7, 9)) ∷
    agreed two_cut latest (codes "[2147483647,2147483647,4]") (int_at 2147483647 ∷ int_at 2147483647 ∷ int_at 4 ∷ []) most (fail (refusal 20 24)) ∷
    agreed careful_shares latest (codes "[0,5]") (int_at 0 ∷ int_at 5 ∷ []) most (ok (int_at 0 ∷ int_at 2 ∷ [], 36)) ∷
    agreed careful_shares latest (codes "[0,0]") (int_at 0 ∷ int_at 0 ∷ []) most (ok (int_at 0 ∷ int_at 0 ∷ [], 31)) ∷
    agreed high latest (codes "[5,2,7]") (int_at 5 ∷ int_at 2 ∷ int_at 7 ∷ []) most (ok (int_at 5 ∷ int_at 7 ∷ [], 30)) ∷
    agreed average latest (codes "[3,4,5]") (int_at 3 ∷ int_at 4 ∷ int_at 5 ∷ []) most (ok (int_at 4, 20)) ∷
    agreed average latest (codes "[]") [] most (fail (refusal 18 47)) ∷ []

pub data AllStand : List Row → Type 0 where
  no_row : AllStand []
  and_row : {r : Row} {rs : List Row} → Stands r → AllStand rs → AllStand (r ∷ rs)

abbrev pub TableLaw : Type 0
TableLaw = AllStand table
