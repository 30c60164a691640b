-- Judging the occurrences of any phrase is elaborating it.
use Rattle.grammar.specs.Tree.{Tree}
use Rattle.lang.specs.Phrases.{Phrase, a_number, a_truth, a_variable, a_let, a_choice, an_each, a_sieve, an_infix, a_unary, a_fold, an_index, a_group, a_pair, a_part, an_empty, a_list}
use Rattle.lang.specs.Phrases.{Elements, the_first, one_more}
use Rattle.judging.proofs.Types.{writing}
use Rattle.judging.proofs.Judges.{Judges, judges_number, judges_truth, judges_variable, judges_group, judges_let}
use Rattle.judging.proofs.Branches.{judges_if, judges_each, judges_sieve}
use Rattle.judging.proofs.Primitives.{judges_unary, judges_fold, judges_infix, judges_index, judges_pair, judges_part, judges_empty, JudgesAll, all_first, all_more, judges_list}

mutual
  pub judges : {e : Tree} → Phrase e → Judges e
  judges (a_number {p} {v}) = judges_number p v
  judges (a_truth {p} {b}) = judges_truth p b
  judges (a_variable {p} {n}) = judges_variable p n
  judges (a_let {p} {n} h k) = judges_let p n (judges h) (judges k)
  judges (a_choice {p} c h k) = judges_if p (judges c) (judges h) (judges k)
  judges (an_each {p} {n} h k) = judges_each p n (judges h) (judges k)
  judges (a_sieve {p} {n} h k f) = judges_sieve p n (judges h) (judges k) (judges f)
  judges (an_infix {p} {o} h k) = judges_infix (judges h) (judges k) p o
  judges (a_unary {p} {o} h) = judges_unary (judges h) p o
  judges (a_fold {p} {f} {o} h) = judges_fold (judges h) p f o
  judges (an_index {p} h k) = judges_index (judges h) (judges k) p
  judges (a_group {p} h) = judges_group p (judges h)
  judges (a_pair {p} h k) = judges_pair (judges h) (judges k) p
  judges (a_part {p} h k) = judges_part (judges h) (judges k) p
  judges (an_empty {p} h) = judges_empty p (writing h)
  judges (a_list {p} h) = judges_list p (judges_elements h)

  pub judges_elements : {es : Tree} → Elements es → JudgesAll es
  judges_elements (the_first h) = all_first (judges h)
  judges_elements (one_more h k) = all_more (judges_elements h) (judges k)
