-- Small programs: the text of each, its tree, and what the checker answers for it.
use Rattle.std.specs.Prelude.{ℕ, List, pos, codes}
use Rattle.monoid.specs.declared.int.Int.{Int}
use Rattle.monoid.specs.Ints.{int_of}
use Rattle.tokens.specs.declared.kind.Name.{Name}
use Rattle.tokens.specs.Words.{padded}
use Rattle.types.specs.Types.{int, pair, list}
use Rattle.grammar.specs.declared.occurrence.Infix.TheVariants.{Add, Divide, Same, Less}
use Rattle.grammar.specs.declared.occurrence.Unary.TheVariants.{Len}
use Rattle.grammar.specs.declared.occurrence.Operation.TheVariants.{Sum, Lin, House}
use Rattle.grammar.specs.Tree.{Fold, Tree}
use Rattle.lang.specs.Expr.{here, there, number, con, group, var, bind, prim, ite, each}
use Rattle.lang.specs.Expr.{over, nil, more, infix_op, bracket, index, len_op, part_op, scan_op, reduce_op}
use Rattle.lang.specs.Check.{Checked}

pub record Program : Type 0 where
  pub text : List ℕ
  pub tree : Tree
  pub checked : Checked

abbrev named : List ℕ → Name
named bytes = record { bytes = padded bytes }

abbrev variable : ℕ → List ℕ → Tree
variable p x = Tree.variable p (named x)

abbrev ints : ℕ → ℕ → Tree
ints p q = Tree.many p (Tree.int q)

abbrev pub int_at : ℕ → Int
int_at n = int_of (pos n)

abbrev pub totals : Program
totals = record {
  text = codes "main(s:[[int]]):[int] = {reduce sum(r) : r in s}";
  tree = Tree.program 7 (named (codes "s")) 16 (Tree.many 7 (ints 8 9)) (ints 16 17)
      (Tree.each 24 (named (codes "r")) (Tree.fold 25 Fold.reduce Sum (variable 36 (codes "r"))) (variable 46 (codes "s")));
  checked = record {
    parameter = list (list int);
    result = list int;
    weight = 13;
    body = over 24 (var 46 here) (prim 25 (reduce_op Sum) (more (var 36 here) nil));
  };
}

abbrev pub shares : Program
shares = record {
  text = codes "main(s:[int]):[int] = {(10 / x) + s[x] : x in s}";
  tree = Tree.program 7 (named (codes "s")) 14 (ints 7 8) (ints 14 15)
      (Tree.each 22 (named (codes "x"))
      (Tree.operate 32 Add (Tree.group 23 (Tree.operate 27 Divide (Tree.number 24 10) (variable 29 (codes "x"))))
      (Tree.index 35 (variable 34 (codes "s")) (variable 36 (codes "x"))))
      (variable 46 (codes "s")));
  checked = record {
    parameter = list int;
    result = list int;
    weight = 27;
    body = over 22 (var 46 here)
        (prim 32 (infix_op Add) (more (group 23 (prim 27 (infix_op Divide) (more (con 24 (number (int_at 10))) (more (var 29 here) nil))))
        (more (prim 35 index (more (var 34 (there here)) (more (var 36 here) nil))) nil)));
  };
}

abbrev pub sums_before : Program
sums_before = record {
  text = codes "main(s:[[int]]):[[int]] = {scan sum(r) : r in s}";
  tree = Tree.program 7 (named (codes "s")) 16 (Tree.many 7 (ints 8 9)) (Tree.many 16 (ints 17 18))
      (Tree.each 26 (named (codes "r")) (Tree.fold 27 Fold.scan Sum (variable 36 (codes "r"))) (variable 46 (codes "s")));
  checked = record {
    parameter = list (list int);
    result = list (list int);
    weight = 15;
    body = over 26 (var 46 here) (prim 27 (scan_op Sum) (more (var 36 here) nil));
  };
}

abbrev pub one_map : Program
one_map = record {
  text = codes "main(s:[(int,int)]):(int,int) = reduce lin(s)";
  tree = Tree.program 7 (named (codes "s")) 20 (Tree.many 7 (Tree.both 8 (Tree.int 9) (Tree.int 13))) (Tree.both 20 (Tree.int 21) (Tree.int 25))
      (Tree.fold 32 Fold.reduce Lin (variable 43 (codes "s")));
  checked = record {
    parameter = list (pair int int);
    result = pair int int;
    weight = 7;
    body = prim 32 (reduce_op Lin) (more (var 43 here) nil);
  };
}

abbrev pub house_result : Program
house_result = record {
  text = codes "main(s:[int]):int = reduce house(s)";
  tree = Tree.program 7 (named (codes "s")) 14 (ints 7 8) (Tree.int 14) (Tree.fold 20 Fold.reduce House (variable 33 (codes "s")));
  checked = record {
    parameter = list int;
    result = int;
    weight = 5;
    body = prim 20 (reduce_op House) (more (var 33 here) nil);
  };
}

abbrev pub two_cut : Program
two_cut = record {
  text = codes "main(s:[int]):[[int]] = part([8,9],s)";
  tree = Tree.program 7 (named (codes "s")) 14 (ints 7 8) (Tree.many 14 (ints 15 16))
      (Tree.part 24 (Tree.list 29 (Tree.more (Tree.first (Tree.number 30 8)) (Tree.number 32 9))) (variable 35 (codes "s")));
  checked = record {
    parameter = list int;
    result = list (list int);
    weight = 16;
    body = prim 24 part_op
        (more (prim 29 (bracket 1 int) (more (con 30 (number (int_at 8))) (more (con 32 (number (int_at 9))) nil))) (more (var 35 here) nil));
  };
}

abbrev pub careful_shares : Program
careful_shares = record {
  text = codes "main(s:[int]):[int] = {if x == 0 then 0 else 10 / x : x in s}";
  tree = Tree.program 7 (named (codes "s")) 14 (ints 7 8) (ints 14 15)
      (Tree.each 22 (named (codes "x"))
      (Tree.choice 23 (Tree.operate 28 Same (variable 26 (codes "x")) (Tree.number 31 0)) (Tree.number 38 0)
      (Tree.operate 48 Divide (Tree.number 45 10) (variable 50 (codes "x"))))
      (variable 59 (codes "s")));
  checked = record {
    parameter = list int;
    result = list int;
    weight = 24;
    body = over 22 (var 59 here)
        (ite 23 (prim 28 (infix_op Same) (more (var 26 here) (more (con 31 (number (int_at 0))) nil))) (con 38 (number (int_at 0)))
        (prim 48 (infix_op Divide) (more (con 45 (number (int_at 10))) (more (var 50 here) nil))));
  };
}

abbrev pub high : Program
high = record {
  text = codes "main(s:[int]):[int] = {x : x in s | 3 < x}";
  tree = Tree.program 7 (named (codes "s")) 14 (ints 7 8) (ints 14 15)
      (Tree.sieve 22 (named (codes "x")) (variable 23 (codes "x")) (variable 32 (codes "s"))
      (Tree.operate 38 Less (Tree.number 36 3) (variable 40 (codes "x"))));
  checked = record {
    parameter = list int;
    result = list int;
    weight = 14;
    body = each 22 (var 32 here) (prim 38 (infix_op Less) (more (con 36 (number (int_at 3))) (more (var 40 here) nil))) (var 23 here);
  };
}

abbrev pub average : Program
average = record {
  text = codes "main(s:[int]):int = let t = reduce sum(s) in t / len(s)";
  tree = Tree.program 7 (named (codes "s")) 14 (ints 7 8) (Tree.int 14)
      (Tree.bind 20 (named (codes "t")) (Tree.fold 28 Fold.reduce Sum (variable 39 (codes "s")))
      (Tree.operate 47 Divide (variable 45 (codes "t")) (Tree.apply 49 Len (variable 53 (codes "s")))));
  checked = record {
    parameter = list int;
    result = int;
    weight = 16;
    body = bind 20 (prim 28 (reduce_op Sum) (more (var 39 here) nil))
        (prim 47 (infix_op Divide) (more (var 45 here) (more (prim 49 len_op (more (var 53 (there here)) nil)) nil)));
  };
}
