-- A tree is tested against tokens, and the test comes with a derivation.
use Rattle.std.proofs.Common.{◌≡◌, ℕ, ◌+◌, true, false, List, length, sym, ap, ◌∙◌, subst}
use mathlib.Core.Option.{Option, none, some}
use Rattle.tokens.specs.declared.kind.Kind.{Kind}
use Rattle.tokens.specs.declared.kind.Token.{Token}
use Rattle.tokens.specs.declared.kind.Name.{Name}
use Rattle.tokens.specs.Kinds.{kind_at, place_at}
use Rattle.grammar.specs.declared.occurrence.Infix.{Infix}
use Rattle.grammar.specs.declared.occurrence.Infix.TheVariants.{Add, Subtract, Multiply, Divide, Remainder, Same, Less}
use Rattle.grammar.specs.Tree.{Tree}
use Rattle.grammar.specs.Grammar.{sign, word, joint, folder, same, less, sums, products, adds, subtracts, multiplies, divides, remains, Sort, programs, types, expressions, tests, chains, posts, atoms, operands, elements, Derives, Program}
use Rattle.grammar.specs.Grammar.{by_program, by_int, by_bool, by_both, by_many, by_let, by_if, by_test, by_comparison, by_total, by_link, by_linked, by_index, by_atom, by_number, by_true, by_false, by_name, by_group, by_pair, by_list, by_empty, by_each, by_sieve, by_word, by_part, by_fold, by_operand, by_first, by_more}
use Rattle.lang.specs.Scope.{same_name}
use Rattle.lang.proofs.Names.{name_is}
use Rattle.worked.proofs.Tests.{and_then, true?, number?, kind?, name?, value?, end?}

-- from the tightest sort of expression to the loosest
pub data Rank : Type 0 where
  atom post product sum test expression : Rank

abbrev pub sort_of : Rank → Sort
sort_of atom = atoms
sort_of post = posts
sort_of product = chains products
sort_of sum = chains sums
sort_of test = tests
sort_of expression = expressions

module _ (ts : List Token) where
  pub loosen : {i j : ℕ} {t : Tree} (r : Rank) → Derives ts (sort_of r) i j t → Derives ts expressions i j t
  loosen atom d = by_test (by_total (by_linked (by_linked (by_atom d))))
  loosen post d = by_test (by_total (by_linked (by_linked d)))
  loosen product d = by_test (by_total (by_linked d))
  loosen sum d = by_test (by_total d)
  loosen test d = by_test d
  loosen expression d = d

  abbrev post? : {i j : ℕ} {t : Tree} (r : Rank) → Derives ts (sort_of r) i j t → Option (Derives ts posts i j t)
  post? atom d = some (by_atom d)
  post? post d = some d
  post? product d = none
  post? sum d = none
  post? test d = none
  post? expression d = none

  abbrev product? : {i j : ℕ} {t : Tree} (r : Rank) → Derives ts (sort_of r) i j t → Option (Derives ts (chains products) i j t)
  product? atom d = some (by_linked (by_atom d))
  product? post d = some (by_linked d)
  product? product d = some d
  product? sum d = none
  product? test d = none
  product? expression d = none

  abbrev sum? : {i j : ℕ} {t : Tree} (r : Rank) → Derives ts (sort_of r) i j t → Option (Derives ts (chains sums) i j t)
  sum? atom d = some (by_linked (by_linked (by_atom d)))
  sum? post d = some (by_linked (by_linked d))
  sum? product d = some (by_linked d)
  sum? sum d = some d
  sum? test d = none
  sum? expression d = none

  -- a phrase that begins at i, with its end
  pub record Phrase (s : Sort) (t : Tree) (i : ℕ) : Type 0 where
    pub upto : ℕ
    pub derives : Derives ts s i upto t

  pub record Ranked (t : Tree) (i : ℕ) : Type 0 where
    pub rank : Rank
    pub upto : ℕ
    pub derives : Derives ts (sort_of rank) i upto t

  abbrev ranked : {t : Tree} {i : ℕ} (r : Rank) (j : ℕ) → Derives ts (sort_of r) i j t → Ranked t i
  ranked r j d = record { rank = r; upto = j; derives = d }

  abbrev phrase : {s : Sort} {t : Tree} {i : ℕ} (j : ℕ) → Derives ts s i j t → Phrase s t i
  phrase j d = record { upto = j; derives = d }

  -- the kind and the place of a token
  abbrev is? : (i : ℕ) (k : Kind) → Option (kind_at ts i ≡ k)
  is? i k = kind? (kind_at ts i) k

  abbrev named? : (i : ℕ) (n : Name) → Option (kind_at ts i ≡ Kind.Name n)
  named? i n = and_then (name? (kind_at ts i)) λ m. and_then (true? (same_name m.0 n)) λ e. some (m.1 ∙ ap Kind.Name (name_is m.0 n e))

  abbrev placed? : (i p : ℕ) → Option (place_at ts i ≡ p)
  placed? i p = number? (place_at ts i) p

  -- at the place that the tree says
  abbrev at_place : {s : Sort} {i j : ℕ} {p q : ℕ} (t : ℕ → Tree) → p ≡ q → Derives ts s i j (t p) → Derives ts s i j (t q)
  at_place {s} {i} {j} t e d = subst (λ p. Derives ts s i j (t p)) e d

  -- an operation with two operands
  abbrev infix? : {a b : Tree} {i : ℕ} (o : Infix) (x : Ranked a i) (p : ℕ) → Ranked b (x.upto + 1) → kind_at ts x.upto ≡ sign o → place_at ts x.upto ≡ p → Option (Ranked (Tree.operate p o a b) i)
  infix? {a} {b} Add x p y k e = and_then (sum? x.rank x.derives) λ l. and_then (product? y.rank y.derives) λ r. some (ranked sum y.upto (at_place (λ p. Tree.operate p Add a b) e (by_link l adds k r)))
  infix? {a} {b} Subtract x p y k e = and_then (sum? x.rank x.derives) λ l. and_then (product? y.rank y.derives) λ r. some (ranked sum y.upto (at_place (λ p. Tree.operate p Subtract a b) e (by_link l subtracts k r)))
  infix? {a} {b} Multiply x p y k e = and_then (product? x.rank x.derives) λ l. and_then (post? y.rank y.derives) λ r. some (ranked product y.upto (at_place (λ p. Tree.operate p Multiply a b) e (by_link l multiplies k r)))
  infix? {a} {b} Divide x p y k e = and_then (product? x.rank x.derives) λ l. and_then (post? y.rank y.derives) λ r. some (ranked product y.upto (at_place (λ p. Tree.operate p Divide a b) e (by_link l divides k r)))
  infix? {a} {b} Remainder x p y k e = and_then (product? x.rank x.derives) λ l. and_then (post? y.rank y.derives) λ r. some (ranked product y.upto (at_place (λ p. Tree.operate p Remainder a b) e (by_link l remains k r)))
  infix? {a} {b} Same x p y k e = and_then (sum? x.rank x.derives) λ l. and_then (sum? y.rank y.derives) λ r. some (ranked test y.upto (at_place (λ p. Tree.operate p Same a b) e (by_comparison l same k r)))
  infix? {a} {b} Less x p y k e = and_then (sum? x.rank x.derives) λ l. and_then (sum? y.rank y.derives) λ r. some (ranked test y.upto (at_place (λ p. Tree.operate p Less a b) e (by_comparison l less k r)))

  -- a written type
  unfoldable pub type? : (t : Tree) (i : ℕ) → Option (Phrase types t i)
  type? (Tree.int p) i = and_then (is? i Kind.Int) λ k. and_then (placed? i p) λ e. some (phrase (i + 1) (at_place Tree.int e (by_int k)))
  type? (Tree.bool p) i = and_then (is? i Kind.Bool) λ k. and_then (placed? i p) λ e. some (phrase (i + 1) (at_place Tree.bool e (by_bool k)))
  type? (Tree.both p a b) i =
      and_then (is? i Kind.Open) λ k. and_then (placed? i p) λ e. and_then (type? a (i + 1)) λ x. and_then (is? x.upto Kind.Comma) λ l.
      and_then (type? b (x.upto + 1)) λ y. and_then (is? y.upto Kind.Close) λ m.
      some (phrase (y.upto + 1) (at_place (λ p. Tree.both p a b) e (by_both k x.derives l y.derives m)))
  type? (Tree.many p a) i =
      and_then (is? i Kind.SquareOpen) λ k. and_then (placed? i p) λ e. and_then (type? a (i + 1)) λ x. and_then (is? x.upto Kind.SquareClose) λ l.
      some (phrase (x.upto + 1) (at_place (λ p. Tree.many p a) e (by_many k x.derives l)))
  type? (Tree.number _ _) i = none
  type? (Tree.truth _ _) i = none
  type? (Tree.variable _ _) i = none
  type? (Tree.bind _ _ _ _) i = none
  type? (Tree.choice _ _ _ _) i = none
  type? (Tree.each _ _ _ _) i = none
  type? (Tree.sieve _ _ _ _ _) i = none
  type? (Tree.operate _ _ _ _) i = none
  type? (Tree.apply _ _ _) i = none
  type? (Tree.fold _ _ _ _) i = none
  type? (Tree.index _ _ _) i = none
  type? (Tree.group _ _) i = none
  type? (Tree.pair _ _ _) i = none
  type? (Tree.part _ _ _) i = none
  type? (Tree.empty _ _) i = none
  type? (Tree.list _ _) i = none
  type? (Tree.first _) i = none
  type? (Tree.more _ _) i = none
  type? (Tree.program _ _ _ _ _ _) i = none

  abbrev looser : {t : Tree} {i : ℕ} → Ranked t i → Phrase expressions t i
  looser x = phrase x.upto (loosen x.rank x.derives)

  -- as an expression, and in parentheses from the place i on
  abbrev loosely : {t : Tree} {i : ℕ} → Option (Ranked t i) → Option (Phrase expressions t i)
  loosely o = and_then o λ x. some (looser x)

  abbrev inside : {t : Tree} (i : ℕ) → Option (Ranked t (i + 1)) → Option (Phrase operands t i)
  inside i o =
      and_then (is? i Kind.Open) λ k. and_then (loosely o) λ x. and_then (is? x.upto Kind.Close) λ l.
      some (phrase (x.upto + 1) (by_operand k x.derives l))

  unfoldable mutual
    pub tree? : (t : Tree) (i : ℕ) → Option (Ranked t i)
    tree? (Tree.number p v) i =
        and_then (value? (kind_at ts i)) λ n. and_then (number? n.0 v) λ e. and_then (placed? i p) λ q.
        some (ranked atom (i + 1) (at_place (λ p. Tree.number p v) q (by_number (n.1 ∙ ap Kind.Number e))))
    tree? (Tree.truth p true) i =
        and_then (is? i Kind.True) λ k. and_then (placed? i p) λ q. some (ranked atom (i + 1) (at_place (λ p. Tree.truth p true) q (by_true k)))
    tree? (Tree.truth p false) i =
        and_then (is? i Kind.False) λ k. and_then (placed? i p) λ q. some (ranked atom (i + 1) (at_place (λ p. Tree.truth p false) q (by_false k)))
    tree? (Tree.variable p n) i =
        and_then (named? i n) λ k. and_then (placed? i p) λ q. some (ranked atom (i + 1) (at_place (λ p. Tree.variable p n) q (by_name k)))
    tree? (Tree.bind p n a b) i =
        and_then (is? i Kind.Let) λ k. and_then (placed? i p) λ q. and_then (named? (i + 1) n) λ m. and_then (is? (i + 1 + 1) Kind.Equal) λ e.
        and_then (loosely (tree? a (i + 1 + 1 + 1))) λ x. and_then (is? x.upto Kind.In) λ l. and_then (loosely (tree? b (x.upto + 1))) λ y.
        some (ranked expression y.upto (at_place (λ p. Tree.bind p n a b) q (by_let k m e x.derives l y.derives)))
    tree? (Tree.choice p c a b) i =
        and_then (is? i Kind.If) λ k. and_then (placed? i p) λ q. and_then (loosely (tree? c (i + 1))) λ x. and_then (is? x.upto Kind.Then) λ l.
        and_then (loosely (tree? a (x.upto + 1))) λ y. and_then (is? y.upto Kind.Else) λ m. and_then (loosely (tree? b (y.upto + 1))) λ z.
        some (ranked expression z.upto (at_place (λ p. Tree.choice p c a b) q (by_if k x.derives l y.derives m z.derives)))
    tree? (Tree.each p n b s) i =
        and_then (is? i Kind.CurlyOpen) λ k. and_then (placed? i p) λ q. and_then (loosely (tree? b (i + 1))) λ x. and_then (is? x.upto Kind.Colon) λ l.
        and_then (named? (x.upto + 1) n) λ m. and_then (is? (x.upto + 1 + 1) Kind.In) λ o. and_then (loosely (tree? s (x.upto + 1 + 1 + 1))) λ y.
        and_then (is? y.upto Kind.CurlyClose) λ w.
        some (ranked atom (y.upto + 1) (at_place (λ p. Tree.each p n b s) q (by_each k x.derives l m o y.derives w)))
    tree? (Tree.sieve p n b s f) i =
        and_then (is? i Kind.CurlyOpen) λ k. and_then (placed? i p) λ q. and_then (loosely (tree? b (i + 1))) λ x. and_then (is? x.upto Kind.Colon) λ l.
        and_then (named? (x.upto + 1) n) λ m. and_then (is? (x.upto + 1 + 1) Kind.In) λ o. and_then (loosely (tree? s (x.upto + 1 + 1 + 1))) λ y.
        and_then (is? y.upto Kind.Bar) λ v. and_then (loosely (tree? f (y.upto + 1))) λ z. and_then (is? z.upto Kind.CurlyClose) λ w.
        some (ranked atom (z.upto + 1) (at_place (λ p. Tree.sieve p n b s f) q (by_sieve k x.derives l m o y.derives v z.derives w)))
    tree? (Tree.operate p o a b) i =
        and_then (tree? a i) λ x. and_then (is? x.upto (sign o)) λ k. and_then (placed? x.upto p) λ q. and_then (tree? b (x.upto + 1)) λ y. infix? o x p y k q
    tree? (Tree.apply p o a) i =
        and_then (is? i (word o)) λ k. and_then (placed? i p) λ q. and_then (inside (i + 1) (tree? a (i + 1 + 1))) λ x.
        some (ranked atom x.upto (at_place (λ p. Tree.apply p o a) q (by_word o k x.derives)))
    tree? (Tree.fold p f o a) i =
        and_then (is? i (folder f)) λ k. and_then (placed? i p) λ q. and_then (is? (i + 1) (joint o)) λ l. and_then (inside (i + 1 + 1) (tree? a (i + 1 + 1 + 1))) λ x.
        some (ranked atom x.upto (at_place (λ p. Tree.fold p f o a) q (by_fold f o k l x.derives)))
    tree? (Tree.index p a b) i =
        and_then (tree? a i) λ x. and_then (post? x.rank x.derives) λ d. and_then (is? x.upto Kind.SquareOpen) λ k. and_then (placed? x.upto p) λ q.
        and_then (loosely (tree? b (x.upto + 1))) λ y. and_then (is? y.upto Kind.SquareClose) λ l.
        some (ranked post (y.upto + 1) (at_place (λ p. Tree.index p a b) q (by_index d k y.derives l)))
    tree? (Tree.group p a) i =
        and_then (is? i Kind.Open) λ k. and_then (placed? i p) λ q. and_then (loosely (tree? a (i + 1))) λ x. and_then (is? x.upto Kind.Close) λ l.
        some (ranked atom (x.upto + 1) (at_place (λ p. Tree.group p a) q (by_group k x.derives l)))
    tree? (Tree.pair p a b) i =
        and_then (is? i Kind.Open) λ k. and_then (placed? i p) λ q. and_then (loosely (tree? a (i + 1))) λ x. and_then (is? x.upto Kind.Comma) λ l.
        and_then (loosely (tree? b (x.upto + 1))) λ y. and_then (is? y.upto Kind.Close) λ m.
        some (ranked atom (y.upto + 1) (at_place (λ p. Tree.pair p a b) q (by_pair k x.derives l y.derives m)))
    tree? (Tree.part p a b) i =
        and_then (is? i Kind.Part) λ k. and_then (placed? i p) λ q. and_then (is? (i + 1) Kind.Open) λ o. and_then (loosely (tree? a (i + 1 + 1))) λ x.
        and_then (is? x.upto Kind.Comma) λ l. and_then (loosely (tree? b (x.upto + 1))) λ y. and_then (is? y.upto Kind.Close) λ m.
        some (ranked atom (y.upto + 1) (at_place (λ p. Tree.part p a b) q (by_part k o x.derives l y.derives m)))
    tree? (Tree.empty p a) i =
        and_then (is? i Kind.Empty) λ k. and_then (placed? i p) λ q. and_then (is? (i + 1) Kind.Open) λ o. and_then (type? a (i + 1 + 1)) λ x.
        and_then (is? x.upto Kind.Close) λ l.
        some (ranked atom (x.upto + 1) (at_place (λ p. Tree.empty p a) q (by_empty k o x.derives l)))
    tree? (Tree.list p es) i =
        and_then (is? i Kind.SquareOpen) λ k. and_then (placed? i p) λ q. and_then (elements? es (i + 1)) λ x. and_then (is? x.upto Kind.SquareClose) λ l.
        some (ranked atom (x.upto + 1) (at_place (λ p. Tree.list p es) q (by_list k x.derives l)))
    tree? (Tree.first _) i = none
    tree? (Tree.more _ _) i = none
    tree? (Tree.int _) i = none
    tree? (Tree.bool _) i = none
    tree? (Tree.both _ _ _) i = none
    tree? (Tree.many _ _) i = none
    tree? (Tree.program _ _ _ _ _ _) i = none

    pub elements? : (t : Tree) (i : ℕ) → Option (Phrase elements t i)
    elements? (Tree.first a) i = and_then (loosely (tree? a i)) λ x. some (phrase x.upto (by_first x.derives))
    elements? (Tree.more es a) i =
        and_then (elements? es i) λ x. and_then (is? x.upto Kind.Comma) λ l. and_then (loosely (tree? a (x.upto + 1))) λ y.
        some (phrase y.upto (by_more x.derives l y.derives))
    elements? (Tree.number _ _) i = none
    elements? (Tree.truth _ _) i = none
    elements? (Tree.variable _ _) i = none
    elements? (Tree.bind _ _ _ _) i = none
    elements? (Tree.choice _ _ _ _) i = none
    elements? (Tree.each _ _ _ _) i = none
    elements? (Tree.sieve _ _ _ _ _) i = none
    elements? (Tree.operate _ _ _ _) i = none
    elements? (Tree.apply _ _ _) i = none
    elements? (Tree.fold _ _ _ _) i = none
    elements? (Tree.index _ _ _) i = none
    elements? (Tree.group _ _) i = none
    elements? (Tree.pair _ _ _) i = none
    elements? (Tree.part _ _ _) i = none
    elements? (Tree.empty _ _) i = none
    elements? (Tree.list _ _) i = none
    elements? (Tree.int _) i = none
    elements? (Tree.bool _) i = none
    elements? (Tree.both _ _ _) i = none
    elements? (Tree.many _ _) i = none
    elements? (Tree.program _ _ _ _ _ _) i = none

  -- all tokens are a program with the tree
  pub record Whole (t : Tree) : Type 0 where
    pub program : Program ts
    pub is : t ≡ program.tree

  abbrev whole : {t u : Tree} (j : ℕ) → Derives ts programs 0 j u → u ≡ t → kind_at ts j ≡ Kind.End → length ts ≡ j + 1 → Whole t
  whole {t} {u} j d e k l = record { program = record { upto = j; tree = u; derives = d; ends = k; all = l }; is = sym e }

  abbrev header-places : {x y q r : ℕ} (n : Name) (a b e : Tree) → x ≡ q → y ≡ r → Tree.program x n y a b e ≡ Tree.program q n r a b e
  header-places {x} {y} {q} {r} n a b e g h = ap (λ p. Tree.program p n y a b e) g ∙ ap (λ p. Tree.program q n p a b e) h

  unfoldable pub program? : (t : Tree) → Option (Whole t)
  program? (Tree.program q n r a b e) =
      and_then (is? 0 Kind.Main) λ k. and_then (is? (0 + 1) Kind.Open) λ l. and_then (named? (0 + 1 + 1) n) λ m. and_then (is? (0 + 1 + 1 + 1) Kind.Colon) λ o.
      and_then (type? a (0 + 1 + 1 + 1 + 1)) λ x. and_then (is? x.upto Kind.Close) λ u. and_then (is? (x.upto + 1) Kind.Colon) λ v.
      and_then (type? b (x.upto + 1 + 1)) λ y. and_then (is? y.upto Kind.Equal) λ w. and_then (loosely (tree? e (y.upto + 1))) λ z.
      and_then (placed? (0 + 1 + 1 + 1 + 1) q) λ g. and_then (placed? (x.upto + 1 + 1) r) λ h.
      and_then (end? (kind_at ts z.upto)) λ s. and_then (number? (length ts) (z.upto + 1)) λ f.
      some (whole z.upto (by_program k l m o x.derives u v y.derives w z.derives) (header-places n a b e g h) s f)
  program? (Tree.number _ _) = none
  program? (Tree.truth _ _) = none
  program? (Tree.variable _ _) = none
  program? (Tree.bind _ _ _ _) = none
  program? (Tree.choice _ _ _ _) = none
  program? (Tree.each _ _ _ _) = none
  program? (Tree.sieve _ _ _ _ _) = none
  program? (Tree.operate _ _ _ _) = none
  program? (Tree.apply _ _ _) = none
  program? (Tree.fold _ _ _ _) = none
  program? (Tree.index _ _ _) = none
  program? (Tree.group _ _) = none
  program? (Tree.pair _ _ _) = none
  program? (Tree.part _ _ _) = none
  program? (Tree.empty _ _) = none
  program? (Tree.list _ _) = none
  program? (Tree.first _) = none
  program? (Tree.more _ _) = none
  program? (Tree.int _) = none
  program? (Tree.bool _) = none
  program? (Tree.both _ _ _) = none
  program? (Tree.many _ _) = none
