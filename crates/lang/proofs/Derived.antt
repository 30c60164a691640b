-- What the grammar derives is a phrase: an expression, the elements of a list, a type, a program.
use Rattle.std.proofs.Common.{ℕ, List}
use Rattle.tokens.specs.declared.kind.Token.{Token}
use Rattle.tokens.specs.Kinds.{place_at}
use Rattle.grammar.specs.Tree.{Tree}
use Rattle.grammar.specs.Grammar.{sums, products, Sort, programs, types, expressions, tests, chains, posts, atoms, operands, elements, Derives, by_program, by_int, by_bool, by_both, by_many, by_let, by_if, by_test, by_comparison, by_total, by_link, by_linked, by_index, by_atom, by_number, by_true, by_false, by_name, by_group, by_pair, by_list, by_empty, by_each, by_sieve, by_word, by_part, by_fold, by_operand, by_first, by_more}
use Rattle.lang.specs.Phrases.{TypePhrase, of_int, of_bool, of_both, of_many}
use Rattle.lang.specs.Phrases.{Phrase, a_number, a_truth, a_variable, a_let, a_choice, an_each, a_sieve, an_infix, a_unary, a_fold, an_index, a_group, a_pair, a_part, an_empty, a_list}
use Rattle.lang.specs.Phrases.{Elements, the_first, one_more, Program, a_program}
use Rattle.lang.specs.Laws.{DerivedLaw}

-- a tree as a phrase of the sort whose first token stands at p
abbrev OfSort : ℕ → Sort → Tree → Type 0
OfSort p programs e = Program e
OfSort p types e = TypePhrase p e
OfSort p expressions e = Phrase e
OfSort p tests e = Phrase e
OfSort p (chains c) e = Phrase e
OfSort p posts e = Phrase e
OfSort p atoms e = Phrase e
OfSort p operands e = Phrase e
OfSort p elements e = Elements e

phrase : {ts : List Token} {σ : Sort} {i j : ℕ} {e : Tree} → Derives ts σ i j e → OfSort (place_at ts i) σ e
phrase (by_program _ _ _ _ a _ _ b _ e) = a_program (phrase a) (phrase b) (phrase e)
phrase (by_int _) = of_int
phrase (by_bool _) = of_bool
phrase (by_both _ a _ b _) = of_both (phrase a) (phrase b)
phrase (by_many _ a _) = of_many (phrase a)
phrase (by_let _ _ _ a _ b) = a_let (phrase a) (phrase b)
phrase (by_if _ c _ a _ b) = a_choice (phrase c) (phrase a) (phrase b)
phrase (by_test a) = phrase a
phrase (by_comparison a _ _ b) = an_infix (phrase a) (phrase b)
phrase (by_total a) = phrase a
phrase (by_link {c = sums} a _ _ b) = an_infix (phrase a) (phrase b)
phrase (by_link {c = products} a _ _ b) = an_infix (phrase a) (phrase b)
phrase (by_linked {c = sums} a) = phrase a
phrase (by_linked {c = products} a) = phrase a
phrase (by_index a _ b _) = an_index (phrase a) (phrase b)
phrase (by_atom a) = phrase a
phrase (by_number _) = a_number
phrase (by_true _) = a_truth
phrase (by_false _) = a_truth
phrase (by_name _) = a_variable
phrase (by_group _ a _) = a_group (phrase a)
phrase (by_pair _ a _ b _) = a_pair (phrase a) (phrase b)
phrase (by_list _ a _) = a_list (phrase a)
phrase (by_empty _ _ a _) = an_empty (phrase a)
phrase (by_each _ b _ _ _ s _) = an_each (phrase b) (phrase s)
phrase (by_sieve _ b _ _ _ s _ f _) = a_sieve (phrase b) (phrase s) (phrase f)
phrase (by_word o _ a) = a_unary (phrase a)
phrase (by_part _ _ a _ b _) = a_part (phrase a) (phrase b)
phrase (by_fold f o _ _ a) = a_fold (phrase a)
phrase (by_operand _ a _) = phrase a
phrase (by_first a) = the_first (phrase a)
phrase (by_more a _ b) = one_more (phrase a) (phrase b)

pub derived : DerivedLaw
derived ts i j tree h = phrase h
