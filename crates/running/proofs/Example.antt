-- The worked run computes.
use Rattle.std.proofs.Common.{[], ◌∷◌, refl, lit<}
use Rattle.std.specs.Int.{int_wrap}
use Rattle.types.specs.Types.{int, list}
use Rattle.lang.specs.Expr.{free, frees}
use Rattle.lang.specs.Layout.{count}
use Rattle.rules.specs.Direct.{direct, directs}
use Rattle.plan.specs.Planned.{Planned, p_con, p_var, p_prim, p_each, p_nil, p_more}
use Rattle.running.specs.Machine.{exec}
use Rattle.running.specs.Words.{Kept, bare, with}
use Rattle.running.specs.Example.{table, variables, body, cells, words, input, ExampleLaw}

is_planned : Planned table variables (list int ∷ []) (list int) body 0 11
unfolding free frees
is_planned =
    p_each (p_var (record { within = lit< tt; is = refl })) (record { within = lit< tt; is = refl }) refl
    (p_prim (p_more (p_con (record { within = lit< tt; is = refl })) (p_more (p_var (record { within = lit< tt; is = refl })) p_nil))
    (record { within = lit< tt; is = refl }))
    (record { within = lit< tt; is = refl })
    (p_prim (p_more (p_var (record { within = lit< tt; is = refl }))
    (p_more (p_prim (p_more (p_var (record { within = lit< tt; is = refl })) p_nil) (record { within = lit< tt; is = refl })) p_nil))
    (record { within = lit< tt; is = refl }))
    (record { within = lit< tt; is = refl })

is_kept : Kept cells (list int ∷ []) words input
is_kept =
    with (list int) (count 0) (count 1 ∷ count 2 ∷ count 3 ∷ [])
    (record {
      holds = record {
        p = 0;
        ws = count 1 ∷ count 2 ∷ count 3 ∷ [];
        is = refl;
        there = lit< tt;
        few = lit< tt;
        row =
            (refl, (refl, (refl, (refl, (refl, tt)))));
        each = (refl, (refl, (refl, tt)));
      };
    }) bare

pub example_law : ExampleLaw
unfolding direct directs free frees exec int_wrap
example_law = record {
  planned = is_planned;
  kept = is_kept;
  rules = λ H. refl;
  machine = λ H. refl;
  rules_less = λ H. refl;
  machine_less =
      λ H. refl;
}
