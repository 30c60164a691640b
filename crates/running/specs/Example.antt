-- A worked run: {x * len(s) : x in s | 1 < x} at [1, 2, 3].
use Rattle.std.specs.Prelude.{◌≡◌, ℕ, true, false, List, [], ◌∷◌, length}
use Rattle.monoid.specs.declared.int.Int.{Int}
use Rattle.types.specs.Types.{int, list}
use Rattle.grammar.specs.declared.occurrence.Infix.TheVariants.{Multiply, Less}
use Rattle.lang.specs.Expr.{here, there, number, infix_op, len_op, Expr, con, var, prim, each, nil, more}
use Rattle.lang.specs.Layout.{count}
use Rattle.rules.specs.Environment.{Env}
use Rattle.rules.specs.Joining.{HouseJoin}
use Rattle.rules.specs.Outcome.{ok, fail}
use Rattle.rules.specs.Outcome.{refusal}
use Rattle.rules.specs.Direct.{direct}
use Rattle.plan.specs.declared.table.Task.TheVariants.{Operate, Length}
use Rattle.plan.specs.declared.table.Mark.{Mark}
use Rattle.plan.specs.declared.table.Mark.TheVariants.{Leaf, Variable, Basic, EachFork, EachFilter, EachJoin}
use Rattle.plan.specs.declared.table.Entry.{Entry}
use Rattle.plan.specs.declared.table.Free.{Free}
use Rattle.plan.specs.Planned.{Planned}
use Rattle.running.specs.Machine.{answer, refuse, st, exec}
use Rattle.running.specs.Words.{Kept}
use Rattle.running.specs.Laws.{fuel}

abbrev entry : ℕ → Mark → Entry
entry p k = record { mark = k; place = p }

abbrev pub table : List Entry
table =
    entry 17 (Variable 0) ∷ entry 0 (EachFork 10 (record { from = 0; to = 1 })) ∷
    entry 21 (Leaf (count 1)) ∷ entry 25 (Variable 0) ∷ entry 23 (Basic (Operate Less)) ∷ entry 0 (EachFilter 10) ∷
    entry 1 (Variable 0) ∷ entry 9 (Variable 1) ∷ entry 5 (Basic Length) ∷ entry 3 (Basic (Operate Multiply)) ∷ entry 0 (EachJoin 2 false) ∷ []

abbrev pub variables : List Free
variables = record { index = 0; boxed = true } ∷ []

abbrev pub body : Expr (list int ∷ []) (list int)
body =
    each 0 (var 17 here) (prim 23 (infix_op Less) (more (con 21 (number (count 1))) (more (var 25 here) nil)))
    (prim 3 (infix_op Multiply) (more (var 1 here) (more (prim 5 len_op (more (var 9 (there here)) nil)) nil)))

abbrev pub input : Env (list int ∷ [])
input = (count 1 ∷ count 2 ∷ count 3 ∷ [], tt)

abbrev pub cells : List Int
cells = count 3 ∷ count 3 ∷ count 1 ∷ count 2 ∷ count 3 ∷ []

abbrev pub words : List Int
words = count 0 ∷ []

pub record ExampleLaw : Type 0 where
  pub planned : Planned table variables (list int ∷ []) (list int) body 0 (length table)
  pub kept : Kept cells (list int ∷ []) words input
  -- what the rules say, and how the machine ends: with the place of the new list
  pub rules : (H : HouseJoin) → direct H 68 body input 0 ≡ ok (count 6 ∷ count 9 ∷ [], 68)
  pub machine : (H : HouseJoin) → (exec 68 H (fuel 68) table variables (st 0 0 cells [] words [])).0 ≡ answer (count 5) 68
  -- with one unit less both are refused at the end
  pub rules_less : (H : HouseJoin) → direct H 67 body input 0 ≡ fail (refusal 17 0)
  pub machine_less : (H : HouseJoin) → (exec 67 H (fuel 67) table variables (st 0 0 cells [] words [])).0 ≡ refuse 17 0
