-- A program has no more occurrences than tokens.
use Rattle.std.proofs.Common.{ℕ, ◌+◌, ◌≤◌, List, length, arith}
use Rattle.std.proofs.lemmas.List.{length-append}
use Rattle.tokens.specs.declared.kind.Token.{Token}
use Rattle.tokens.specs.Cutting.{Cuts}
use Rattle.tokens.proofs.Cutting.{goes_few}
use Rattle.grammar.specs.Tree.{Tree, occs}
use Rattle.grammar.specs.Grammar as g
use Rattle.grammar.specs.Grammar.{Sort, Derives, Program}

fewer : {ts : List Token} {s : Sort} {i j : ℕ} {e : Tree} → Derives ts s i j e → length (occs e) + i ≤ j
fewer (g.by_program _ _ _ _ a _ _ b _ e) = simp length-append (omega (arith, fewer a, fewer b, fewer e))
fewer (g.by_int _) = omega arith
fewer (g.by_bool _) = omega arith
fewer (g.by_both _ a _ b _) = simp length-append (omega (arith, fewer a, fewer b))
fewer (g.by_many _ a _) = simp length-append (omega (arith, fewer a))
fewer (g.by_let _ _ _ a _ b) = simp length-append (omega (arith, fewer a, fewer b))
fewer (g.by_if _ c _ a _ b) = simp length-append (omega (arith, fewer c, fewer a, fewer b))
fewer (g.by_test a) = fewer a
fewer (g.by_comparison a _ _ b) = simp length-append (omega (arith, fewer a, fewer b))
fewer (g.by_total a) = fewer a
fewer (g.by_link a _ _ b) = simp length-append (omega (arith, fewer a, fewer b))
fewer (g.by_linked a) = fewer a
fewer (g.by_index a _ b _) = simp length-append (omega (arith, fewer a, fewer b))
fewer (g.by_atom a) = fewer a
fewer (g.by_number _) = omega arith
fewer (g.by_true _) = omega arith
fewer (g.by_false _) = omega arith
fewer (g.by_name _) = omega arith
fewer (g.by_group _ a _) = simp length-append (omega (arith, fewer a))
fewer (g.by_pair _ a _ b _) = simp length-append (omega (arith, fewer a, fewer b))
fewer (g.by_list _ a _) = simp length-append (omega (arith, fewer a))
fewer (g.by_empty _ _ a _) = simp length-append (omega (arith, fewer a))
fewer (g.by_each _ b _ _ _ s _) = simp length-append (omega (arith, fewer b, fewer s))
fewer (g.by_sieve _ b _ _ _ s _ f _) = simp length-append (omega (arith, fewer b, fewer s, fewer f))
fewer (g.by_word o _ a) = simp length-append (omega (arith, fewer a))
fewer (g.by_part _ _ a _ b _) = simp length-append (omega (arith, fewer a, fewer b))
fewer (g.by_fold f o _ _ a) = simp length-append (omega (arith, fewer a))
fewer (g.by_operand _ a _) = omega (arith, fewer a)
fewer (g.by_first a) = fewer a
fewer (g.by_more a _ b) = simp length-append (omega (arith, fewer a, fewer b))

pub few : {text : List ℕ} {ts : List Token} → Cuts text ts → (p : Program ts) → length (occs p.tree) ≤ 1024
few cuts p = omega (arith, goes_few cuts (omega arith), fewer p.derives, p.all)
