-- Eight small programs: what is accepted, and where the others are refused.
use Rattle.std.specs.Prelude.{◌≡◌, ℕ, true, pos, codes}
use Rattle.monoid.specs.Ints.{int_of}
use Rattle.tokens.specs.declared.kind.Name.{Name}
use Rattle.tokens.specs.Words.{padded}
use Rattle.types.specs.Types.{int, list}
use Rattle.grammar.specs.declared.occurrence.Infix.TheVariants.{Add}
use Rattle.grammar.specs.declared.occurrence.Operation.TheVariants.{Sum}
use Rattle.grammar.specs.Tree.{Fold, Tree}
use Rattle.lang.specs.Expr.{here, number, truth, con, var, bind, prim, ite, over, nil, more, reduce_op}
use Rattle.lang.specs.Outcome.{ok, refuse}
use Rattle.lang.specs.Check.{check}

abbrev name_s : Name
name_s = record { bytes = padded (codes "s") }

abbrev name_r : Name
name_r = record { bytes = padded (codes "r") }

abbrev name_p : Name
name_p = record { bytes = padded (codes "p") }

-- main(s:[[int]]):[int] = {reduce sum(r) : r in s}
abbrev pub totals : Tree
totals = Tree.program 7 name_s 16 (Tree.many 7 (Tree.many 8 (Tree.int 9))) (Tree.many 16 (Tree.int 17))
    (Tree.each 24 name_r (Tree.fold 25 Fold.reduce Sum (Tree.variable 36 name_r)) (Tree.variable 46 name_s))

-- main(s:[int]):[int] = .. for a body that begins at 22
abbrev rows_of_ints : Tree → Tree
rows_of_ints e = Tree.program 7 name_s 14 (Tree.many 7 (Tree.int 8)) (Tree.many 14 (Tree.int 15)) e

-- {1 + true : r in s | 5}
abbrev pub adds_a_bool : Tree
adds_a_bool = rows_of_ints (Tree.sieve 22 name_r (Tree.operate 25 Add (Tree.number 23 1) (Tree.truth 27 true)) (Tree.variable 39 name_s) (Tree.number 43 5))

-- {p : r in s | p}
abbrev pub unknown_twice : Tree
unknown_twice = rows_of_ints (Tree.sieve 22 name_r (Tree.variable 23 name_p) (Tree.variable 32 name_s) (Tree.variable 36 name_p))

-- main(s:[[[[[[[[int]]]]]]]]):int = p
abbrev pub deep_type : Tree
deep_type =
    Tree.program 7 name_s 28
    (Tree.many 7 (Tree.many 8 (Tree.many 9 (Tree.many 10 (Tree.many 11 (Tree.many 12 (Tree.many 13 (Tree.many 14 (Tree.int 15))))))))) (Tree.int 28)
    (Tree.variable 34 name_p)

-- main(s:int):bool = (s,s)
abbrev pub other_type : Tree
other_type = Tree.program 7 name_s 12 (Tree.int 7) (Tree.bool 12) (Tree.pair 19 (Tree.variable 20 name_s) (Tree.variable 22 name_s))

-- main(s:int):[int] = .. for elements at 21, 23 and so on
abbrev items : ℕ → Tree → Tree
items n es = Tree.more es (Tree.variable n name_s)

-- nine elements
abbrev pub nine_elements : Tree
nine_elements =
    Tree.program 7 name_s 12 (Tree.int 7) (Tree.many 12 (Tree.int 13))
    (Tree.list 20 (items 37 (items 35 (items 33 (items 31 (items 29 (items 27 (items 25 (items 23 (Tree.first (Tree.variable 21 name_s)))))))))))

-- main(s:int):int = if s then p else p
abbrev pub int_for_bool : Tree
int_for_bool = Tree.program 7 name_s 12 (Tree.int 7) (Tree.int 12) (Tree.choice 18 (Tree.variable 21 name_s) (Tree.variable 28 name_p) (Tree.variable 35 name_p))

-- main(s:int):int = let s = true in if s then 1 else 2
abbrev pub inner_name : Tree
inner_name = Tree.program 7 name_s 12 (Tree.int 7) (Tree.int 12) (Tree.bind 18 name_s (Tree.truth 26 true) (Tree.choice 34 (Tree.variable 37 name_s) (Tree.number 44 1) (Tree.number 51 2)))

pub record Examples : Type 0 where
  pub accepts : check totals ≡ ok (record { parameter = list (list int); result = list int; body = over 24 (var 46 here) (prim 25 (reduce_op Sum) (more (var 36 here) nil)); weight = 13 })
  pub inner_counts : check inner_name ≡ ok (record { parameter = int; result = int; body = bind 18 (con 26 (truth true)) (ite 34 (var 37 here) (con 44 (number (int_of (pos 1)))) (con 51 (number (int_of (pos 2))))); weight = 8 })
  pub condition_first : check int_for_bool ≡ refuse 6 18
  pub body_before_filter : check adds_a_bool ≡ refuse 6 25
  pub filter_first : check unknown_twice ≡ refuse 5 36
  pub header_first : check deep_type ≡ refuse 7 7
  pub declared_other : check other_type ≡ refuse 8 0
  pub too_many : check nine_elements ≡ refuse 7 20
