-- The state that the checker holds.
use Rattle.std.specs.Prelude.{◌≡◌, ℕ, ◌+◌, ◌^◌, ◌<◌, ◌≤◌, Bool, cond, List, length, vec_items, vec_len, Result, MatchResult}
use Rattle.std.specs.declared.result.Result.TheVariants.{Ok, Err}
use Rattle.types.specs.Types.{Ty, bool}
use Rattle.types.specs.Entries.{counted}
use Rattle.types.specs.Table.{types_in, type_of}
use Rattle.grammar.specs.declared.occurrence.What.{What}
use Rattle.lang.specs.Outcome.{Out, ok, refused}
use Rattle.lang.specs.Rules.{Verdict, gives, unfit, large}
use Rattle.typing.specs.Faults.{of_check, misfit_at}
use Rattle.typing.specs.declared.fault.CheckFault.{CheckFault}
use Rattle.typing.specs.declared.given.Given.{Given}
use Rattle.typing.specs.declared.misfit.Misfit.{Misfit}
use Rattle.typing.specs.declared.misfit.Misfit.TheVariants.{Unfit, TooLarge}
use Rattle.judging.specs.Notes.{note}
use Rattle.judging.specs.Judging.{State, fork, top, popped, pushed, noted, weighing, only, step}
use Rattle.typing.specs.Codes.{given_type, holding, fork_of}
use Rattle.typing.specs.declared.parts.Fork.{Fork as ForkEntry}
use Rattle.typing.specs.declared.checker.Checker.{Checker}

unfoldable pub held : Checker → State
held c =
    holding (types_in c.types) (vec_items c.scope) (vec_items c.stack) (vec_items c.forks) (vec_items c.uses) (vec_items c.notes) c.weight

-- the types that the checker knows
abbrev pub known : Checker → List Ty
known c = types_in c.types

-- the type of a code
abbrev pub type_in : Checker → ℕ → Ty
type_in c i = type_of c.types i

-- there is room for one occurrence more
pub record Room (s : State) : Type 0 where
  pub scope : length s.scope < 1025
  pub stack : length s.stack < 1025
  pub forks : length s.forks < 1025
  pub notes : length s.notes < 1025
  pub weight : s.weight ≤ 2 ^ 60

-- the innermost fork as the checker has it
pub record LastFork (c : Checker) (f : ForkEntry) : Type 0 where
  pub is : fork_of (vec_items c.uses) f ≡ fork (held c)
  pub start : f.start ≤ vec_len c.uses
  pub depth : f.depth < 1025

-- an occurrence was judged: the checker holds the state after it, or the fault is the refusal
abbrev pub Judged : Out State → Checker → Result (Unit {0}) CheckFault → Type 0
Judged out c r = MatchResult r (λ _. out ≡ ok (held c)) (λ f. out ≡ refused (of_check f))

-- an occurrence was judged, wherever it stands
abbrev pub Placed : (ℕ → Out State) → Checker → Result (Unit {0}) Misfit → Type 0
Placed out c r = MatchResult r (λ _. (p : ℕ) → out p ≡ ok (held c)) (λ m. (p : ℕ) → out p ≡ refused (misfit_at p m))

abbrev pub Stepped : What → State → Checker → Result (Unit {0}) Misfit → Type 0
Stepped w s c r = Placed (λ p. step w p s) c r

-- what a rule says, wherever it is asked
abbrev pub outcome : {ts : List Ty} → Verdict ts → Result Ty Misfit
outcome (gives t o) = Ok t
outcome unfit = Err Unfit
outcome large = Err TooLarge

-- a rule gives this type, or refuses
abbrev pub Ruled : {ts : List Ty} → Verdict ts → Checker → Result Given Misfit → Type 0
Ruled v c r = MatchResult r (λ g. outcome v ≡ Ok (given_type (known c) g)) (λ m. outcome v ≡ Err m)

-- a node of this type over the k uppermost, which have n parts
abbrev pub over : ℕ → ℕ → Ty → State → State
over k n t s = noted (note t) (weighing (1 + n + counted t) (pushed t (popped k s)))

-- the filter's type is off the stack
abbrev pub filter_of : ℕ → Bool → State → Out State
filter_of p filtered s = cond filtered (only (top s) bool p (popped 1 s)) (ok s)
