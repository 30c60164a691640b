-- The trees that are phrases of the grammar: expressions, the elements of a list, types, programs.
use Rattle.std.specs.Prelude.{ℕ, Bool}
use Rattle.tokens.specs.declared.kind.Name.{Name}
use Rattle.grammar.specs.declared.occurrence.Infix.{Infix}
use Rattle.grammar.specs.declared.occurrence.Unary.{Unary}
use Rattle.grammar.specs.declared.occurrence.Operation.{Operation}
use Rattle.grammar.specs.Tree.{Tree, Fold}

-- a written type, with the place of its own token
pub data TypePhrase : ℕ → Tree → Type 0 where
  of_int : {p : ℕ} → TypePhrase p (Tree.int p)
  of_bool : {p : ℕ} → TypePhrase p (Tree.bool p)
  of_both : {p q r : ℕ} {a b : Tree} → TypePhrase q a → TypePhrase r b → TypePhrase p (Tree.both p a b)
  of_many : {p q : ℕ} {a : Tree} → TypePhrase q a → TypePhrase p (Tree.many p a)

mutual
  -- an expression
  pub data Phrase : Tree → Type 0 where
    a_number : {p v : ℕ} → Phrase (Tree.number p v)
    a_truth : {p : ℕ} {b : Bool} → Phrase (Tree.truth p b)
    a_variable : {p : ℕ} {n : Name} → Phrase (Tree.variable p n)
    a_let : {p : ℕ} {n : Name} {e b : Tree} → Phrase e → Phrase b → Phrase (Tree.bind p n e b)
    a_choice : {p : ℕ} {c a b : Tree} → Phrase c → Phrase a → Phrase b → Phrase (Tree.choice p c a b)
    an_each : {p : ℕ} {n : Name} {b l : Tree} → Phrase b → Phrase l → Phrase (Tree.each p n b l)
    a_sieve : {p : ℕ} {n : Name} {b l f : Tree} → Phrase b → Phrase l → Phrase f → Phrase (Tree.sieve p n b l f)
    an_infix : {p : ℕ} {o : Infix} {a b : Tree} → Phrase a → Phrase b → Phrase (Tree.operate p o a b)
    a_unary : {p : ℕ} {o : Unary} {a : Tree} → Phrase a → Phrase (Tree.apply p o a)
    a_fold : {p : ℕ} {f : Fold} {o : Operation} {a : Tree} → Phrase a → Phrase (Tree.fold p f o a)
    an_index : {p : ℕ} {a b : Tree} → Phrase a → Phrase b → Phrase (Tree.index p a b)
    a_group : {p : ℕ} {a : Tree} → Phrase a → Phrase (Tree.group p a)
    a_pair : {p : ℕ} {a b : Tree} → Phrase a → Phrase b → Phrase (Tree.pair p a b)
    a_part : {p : ℕ} {a b : Tree} → Phrase a → Phrase b → Phrase (Tree.part p a b)
    an_empty : {p q : ℕ} {a : Tree} → TypePhrase q a → Phrase (Tree.empty p a)
    a_list : {p : ℕ} {es : Tree} → Elements es → Phrase (Tree.list p es)

  -- the elements of a list in brackets
  pub data Elements : Tree → Type 0 where
    the_first : {a : Tree} → Phrase a → Elements (Tree.first a)
    one_more : {es a : Tree} → Elements es → Phrase a → Elements (Tree.more es a)

-- a whole program: the types of its header stand at the places that it names
pub data Program : Tree → Type 0 where
  a_program : {x r : ℕ} {n : Name} {a b e : Tree} → TypePhrase x a → TypePhrase r b → Phrase e → Program (Tree.program x n r a b e)
