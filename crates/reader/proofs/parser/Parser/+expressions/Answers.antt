use Rattle.std.proofs.Common.{true, false, ◌∷◌, sym, refl, ◌∙◌, arith}
use Rattle.std.proofs.lemmas.Result.{MatchResult-weaker}
use Rattle.tokens.proofs.Same.{same, differs}
use Rattle.grammar.specs.Tree.{number, truth, variable}
use Rattle.grammar.specs.Grammar.{by_number, by_true, by_false, by_name}
use Rattle.grammar.specs.Law.{rest, indexes}
use Rattle.grammar.proofs.Follow.{free_total, free_compared, free_links, free_atoms, free_items, free_closing, free_filter}
use Rattle.grammar.proofs.Opening.{open_test, open_number, open_true, open_false, open_name, no_atom}
use Rattle.reader.specs.Ranks.{chain_of, fold_of}
use Rattle.reader.proofs.Ranks.{no_fold}
use Rattle.reader.proofs.Ways.{fails, same_state, start, take_on, mark_on, name_on, joint_on, read_on, read_then, loop_on, count_on, push_on, long, stopped, stopped_at, stopped_then, stopped_operand}
use Rattle.reader.proofs.Begun.{let_way, if_way, test_way, chain_way, post_way, group_way, list_way, each_way, word_way, part_way, fold_way, operand_way, paired, closed, sieved, another, no_other, link, bracket, compare}
use Rattle.reader.proofs.Phrases.{leaf_read, let_read, if_read, test_read, compare_read, alone_read, group_read, pair_read, part_read, operand_read, word_read, fold_read, none_read, filter_read, each_read, stopped_join}
use Rattle.reader.proofs.Repeats.{link_again, index_again, chain_read, post_read, counts_more, list_read}
use Rattle.reader.proofs.parser.Parser.+expressions.Goals as goal

-- let

pub bind-returns-in_err-name : goal.bind-returns-in_err-name
bind-returns-in_err-name t c = fails _ _ _ c.from_residual.ensures.1 (stopped (let_way c.requires c.pass-place.ensures.took) (λ γ free. tt) c.in_err-name.ensures)

pub bind-returns-in_err-expect : goal.bind-returns-in_err-expect
bind-returns-in_err-expect t c = fails _ _ _ c.from_residual-in_err-expect.ensures.1 (stopped_at (name_on (let_way c.requires c.pass-place.ensures.took) c.in_ok-name.ensures) c.in_err-expect.ensures)

pub bind-returns-in_err-expr : goal.bind-returns-in_err-expr
bind-returns-in_err-expr t c = fails _ _ _ c.from_residual-in_err-expr.ensures.1 (stopped_then (take_on (name_on (let_way c.requires c.pass-place.ensures.took) c.in_ok-name.ensures) c.in_ok-expect.ensures) refl c.in_err-expr.ensures)

pub bind-returns-in_err-mark : goal.bind-returns-in_err-mark
bind-returns-in_err-mark t c = fails _ _ _ c.from_residual-in_err-mark.ensures.1 (stopped_at (read_then (take_on (name_on (let_way c.requires c.pass-place.ensures.took) c.in_ok-name.ensures) c.in_ok-expect.ensures) refl c.in_ok-expr.ensures) c.in_err-mark.ensures)

pub bind-returns-in_err-expr-2 : goal.bind-returns-in_err-expr-2
bind-returns-in_err-expr-2 t c = fails _ _ _ c.from_residual-in_err-expr-2.ensures.1 (stopped (mark_on (read_then (take_on (name_on (let_way c.requires c.pass-place.ensures.took) c.in_ok-name.ensures) c.in_ok-expect.ensures) refl c.in_ok-expr.ensures) c.in_ok-mark.ensures) (λ γ free. free) c.in_err-expr-2.ensures)

pub bind-returns : goal.bind-returns
bind-returns t c = let_read c.requires c.pass-place.ensures.took c.pass-place.ensures.place c.in_ok-name.ensures c.in_ok-expect.ensures c.in_ok-expr.ensures c.in_ok-mark.ensures c.in_ok-expr-2.ensures c.push.ensures

-- if

pub choice-returns-in_err-expr : goal.choice-returns-in_err-expr
choice-returns-in_err-expr t c = fails _ _ _ c.from_residual.ensures.1 (stopped_then (if_way c.requires c.pass-place.ensures.took) refl c.in_err-expr.ensures)

pub choice-returns-in_err-mark : goal.choice-returns-in_err-mark
choice-returns-in_err-mark t c = fails _ _ _ c.from_residual-in_err-mark.ensures.1 (stopped_at (read_then (if_way c.requires c.pass-place.ensures.took) refl c.in_ok-expr.ensures) c.in_err-mark.ensures)

pub choice-returns-in_err-expr-2 : goal.choice-returns-in_err-expr-2
choice-returns-in_err-expr-2 t c = fails _ _ _ c.from_residual-in_err-expr-2.ensures.1 (stopped_then (mark_on (read_then (if_way c.requires c.pass-place.ensures.took) refl c.in_ok-expr.ensures) c.in_ok-mark.ensures) refl c.in_err-expr-2.ensures)

pub choice-returns-in_err-mark-2 : goal.choice-returns-in_err-mark-2
choice-returns-in_err-mark-2 t c = fails _ _ _ c.from_residual-in_err-mark-2.ensures.1 (stopped_at (read_then (mark_on (read_then (if_way c.requires c.pass-place.ensures.took) refl c.in_ok-expr.ensures) c.in_ok-mark.ensures) refl c.in_ok-expr-2.ensures) c.in_err-mark-2.ensures)

pub choice-returns-in_err-expr-3 : goal.choice-returns-in_err-expr-3
choice-returns-in_err-expr-3 t c = fails _ _ _ c.from_residual-in_err-expr-3.ensures.1 (stopped (mark_on (read_then (mark_on (read_then (if_way c.requires c.pass-place.ensures.took) refl c.in_ok-expr.ensures) c.in_ok-mark.ensures) refl c.in_ok-expr-2.ensures) c.in_ok-mark-2.ensures) (λ γ free. free) c.in_err-expr-3.ensures)

pub choice-returns : goal.choice-returns
choice-returns t c = if_read c.requires c.pass-place.ensures.took c.pass-place.ensures.place c.in_ok-expr.ensures c.in_ok-mark.ensures c.in_ok-expr-2.ensures c.in_ok-mark-2.ensures c.in_ok-expr-3.ensures c.push.ensures

-- comparisons

pub test-returns-in_err-chain : goal.test-returns-in_err-chain
test-returns-in_err-chain t c = fails _ _ _ c.from_residual.ensures.1 (stopped test_way (free_compared) c.in_err-chain.ensures)

pub test-returns-in_default : goal.test-returns-in_default
test-returns-in_default t c = alone_read c.in_ok-chain.ensures (λ o k e. c.in_default.ensures o k (c.peek.ensures ∙ e))

pub test-returns-in_err-comparand : goal.test-returns-in_err-comparand
test-returns-in_err-comparand t c = fails _ _ _ c.from_residual-in_err-comparand.ensures.1 (stopped (compare (read_on test_way free_compared c.in_ok-chain.ensures) c.in-Some.ensures.0 (sym c.peek.ensures ∙ c.in-Some.ensures.1) c.pass-place.ensures.took) (free_total) c.in_err-comparand.ensures)

pub test-returns : goal.test-returns
test-returns t c = compare_read c.in_ok-chain.ensures c.in-Some.ensures.0 (sym c.peek.ensures ∙ c.in-Some.ensures.1) c.pass-place.ensures.took c.pass-place.ensures.place c.in_ok-comparand.ensures c.push.ensures

-- chains

pub chain-returns-in_err-link : goal.chain-returns-in_err-link
chain-returns-in_err-link t c = fails _ _ _ c.from_residual.ensures.1 (stopped (chain_way (chain_of c.args.rank)) (free_links (chain_of c.args.rank)) c.in_err-link.ensures)

pub chain-returns-in_err-right : goal.chain-returns-in_err-right
chain-returns-in_err-right t c = fails _ _ _ c.from_residual-in_err-right.ensures.1 (stopped (link (loop_on (read_on (chain_way (chain_of c.args.rank)) (free_links (chain_of c.args.rank)) c.in_ok-link.ensures) (λ γ free. free) c.loop-sign.invariant) c.in-Some.ensures.0 (sym c.peek.ensures ∙ c.in-Some.ensures.1) c.pass-place.ensures.took) (free_links (chain_of c.args.rank)) c.in_err-right.ensures)

pub chain-loop-sign-preserved : goal.chain-loop-sign-preserved
chain-loop-sign-preserved t c = link_again (chain_of c.args.rank) c.loop-sign.invariant c.in-Some.ensures.0 (sym c.peek.ensures ∙ c.in-Some.ensures.1) c.pass-place.ensures.took c.pass-place.ensures.place c.in_ok-right.ensures c.push.ensures

pub chain-returns : goal.chain-returns
chain-returns t c = chain_read (chain_of c.args.rank) c.in_ok-link.ensures c.loop-sign.invariant (λ o j e. c.in_default.ensures o j (c.peek.ensures ∙ e))

-- indexes

pub post-returns-in_err-atom : goal.post-returns-in_err-atom
post-returns-in_err-atom t c = fails _ _ _ c.from_residual.ensures.1 (stopped post_way (λ γ free. free_atoms (rest indexes ∷ γ)) c.in_err-atom.ensures)

pub post-returns-in_err-expr : goal.post-returns-in_err-expr
post-returns-in_err-expr t c = fails _ _ _ c.from_residual-in_err-expr.ensures.1 (stopped_then (bracket (loop_on (read_on post_way (λ γ free. free_atoms (rest indexes ∷ γ)) c.in_ok-atom.ensures) (λ γ free. free) c.loop-self.invariant) (sym c.peek.ensures ∙ same _ _ _ c.eq.ensures c.loop-self-test.true) c.pass-place.ensures.took) refl c.in_err-expr.ensures)

pub post-returns-in_err-mark : goal.post-returns-in_err-mark
post-returns-in_err-mark t c = fails _ _ _ c.from_residual-in_err-mark.ensures.1 (stopped_at (read_then (bracket (loop_on (read_on post_way (λ γ free. free_atoms (rest indexes ∷ γ)) c.in_ok-atom.ensures) (λ γ free. free) c.loop-self.invariant) (sym c.peek.ensures ∙ same _ _ _ c.eq.ensures c.loop-self-test.true) c.pass-place.ensures.took) refl c.in_ok-expr.ensures) c.in_err-mark.ensures)

pub post-loop-self-preserved : goal.post-loop-self-preserved
post-loop-self-preserved t c = index_again c.loop-self.invariant (sym c.peek.ensures ∙ same _ _ _ c.eq.ensures c.loop-self-test.true) c.pass-place.ensures.took c.pass-place.ensures.place c.in_ok-expr.ensures c.in_ok-mark.ensures

pub post-returns : goal.post-returns
post-returns t c = post_read c.in_ok-atom.ensures c.loop-self.invariant (λ e. differs _ _ _ c.eq.ensures c.loop-self-test.false (c.peek.ensures ∙ e))

-- atoms

pub atom-returns-in-Number : goal.atom-returns-in-Number
atom-returns-in-Number t c = let x = sym c.peek.ensures ∙ c.in-Number.is in leaf_read (number _ _) x c.leaf.ensures (by_number x) (λ γ. open_number x) refl

pub atom-returns-in-True : goal.atom-returns-in-True
atom-returns-in-True t c = let x = sym c.peek.ensures ∙ c.in-True.is in leaf_read (truth _ true) x c.leaf-in-True.ensures (by_true x) (λ γ. open_true x) refl

pub atom-returns-in-False : goal.atom-returns-in-False
atom-returns-in-False t c = let x = sym c.peek.ensures ∙ c.in-False.is in leaf_read (truth _ false) x c.leaf-in-False.ensures (by_false x) (λ γ. open_false x) refl

pub atom-returns-in-Name : goal.atom-returns-in-Name
atom-returns-in-Name t c = let x = sym c.peek.ensures ∙ c.in-Name.is in leaf_read (variable _ _) x c.leaf-in-Name.ensures (by_name x) (λ γ. open_name x) refl

pub atom-returns-in-None : goal.atom-returns-in-None
atom-returns-in-None t c = let p = c.peek.ensures in let h = c.in_default in record { kept = same_state; refuses = λ γ free s. no_atom c.args.self.now.within (λ v x. h.not-Number v (p ∙ x)) (λ x. h.not-True (p ∙ x)) (λ x. h.not-False (p ∙ x)) (λ n x. h.not-Name n (p ∙ x)) (λ x. h.not-Open (p ∙ x)) (λ x. h.not-SquareOpen (p ∙ x)) (λ x. h.not-Empty (p ∙ x)) (λ x. h.not-CurlyOpen (p ∙ x)) (λ o x. c.in-None.ensures o (p ∙ x)) (λ x. h.not-Part (p ∙ x)) (λ f x. no_fold h.not-Scan h.not-Reduce f (p ∙ x)) c.refusal.ensures s }

-- groups and pairs

pub group-returns-in_err-expr : goal.group-returns-in_err-expr
group-returns-in_err-expr t c = fails _ _ _ c.from_residual.ensures.1 (stopped (group_way c.requires c.pass-place.ensures.took) (λ γ free. free_closing γ) c.in_err-expr.ensures)

pub group-returns-in_err-expr-2 : goal.group-returns-in_err-expr-2
group-returns-in_err-expr-2 t c = fails _ _ _ c.from_residual-in_err-expr-2.ensures.1 (stopped_then (paired (read_on (group_way c.requires c.pass-place.ensures.took) (λ γ free. free_closing γ) c.in_ok-expr.ensures) c.if-accept.ensures) refl c.in_err-expr-2.ensures)

pub group-returns-in_ok-expr-2 : goal.group-returns-in_ok-expr-2
group-returns-in_ok-expr-2 t c = MatchResult-weaker c.mark.result c.mark.ensures (λ _ x. pair_read c.requires c.pass-place.ensures.took c.pass-place.ensures.place c.in_ok-expr.ensures c.if-accept.ensures c.in_ok-expr-2.ensures x) (λ f n. stopped_at (read_then (paired (read_on (group_way c.requires c.pass-place.ensures.took) (λ γ free. free_closing γ) c.in_ok-expr.ensures) c.if-accept.ensures) refl c.in_ok-expr-2.ensures) n)

pub group-returns-else-accept : goal.group-returns-else-accept
group-returns-else-accept t c = MatchResult-weaker c.mark-else-accept.result c.mark-else-accept.ensures (λ _ x. group_read c.requires c.pass-place.ensures.took c.pass-place.ensures.place c.in_ok-expr.ensures c.if-accept.ensures x) (λ f n. stopped_at (closed (read_on (group_way c.requires c.pass-place.ensures.took) (λ γ free. free_closing γ) c.in_ok-expr.ensures) c.if-accept.ensures) n)

-- lists

pub list-returns-in_err-expr : goal.list-returns-in_err-expr
list-returns-in_err-expr t c = fails _ _ _ c.from_residual.ensures.1 (stopped (list_way c.requires c.pass-place.ensures.took) (λ γ free. free_items γ) c.in_err-expr.ensures)

pub list-returns-in_err-expr-2 : goal.list-returns-in_err-expr-2
list-returns-in_err-expr-2 t c = fails _ _ _ c.from_residual-in_err-expr-2.ensures.1 (stopped (another (count_on (read_on (list_way c.requires c.pass-place.ensures.took) (λ γ free. free_items γ) c.in_ok-expr.ensures) c.loop-self.invariant) c.loop-self-test.ensures) (λ γ free. free_items γ) c.in_err-expr-2.ensures)

pub list-loop-self-preserved : goal.list-loop-self-preserved
list-loop-self-preserved t c = counts_more c.loop-self.invariant c.loop-self-test.ensures c.in_ok-expr-2.ensures

pub list-returns : goal.list-returns
list-returns t c = MatchResult-weaker c.mark.result c.mark.ensures (λ _ x. list_read c.requires c.pass-place.ensures.took c.pass-place.ensures.place c.in_ok-expr.ensures c.loop-self.invariant c.loop-self-test.ensures x) (λ f n. stopped_at (no_other (count_on (read_on (list_way c.requires c.pass-place.ensures.took) (λ γ free. free_items γ) c.in_ok-expr.ensures) c.loop-self.invariant) c.loop-self-test.ensures) n)

-- comprehensions

pub each-returns-in_err-expr : goal.each-returns-in_err-expr
each-returns-in_err-expr t c = fails _ _ _ c.from_residual.ensures.1 (stopped_then (each_way c.requires c.pass-place.ensures.took) refl c.in_err-expr.ensures)

pub each-returns-in_err-expect : goal.each-returns-in_err-expect
each-returns-in_err-expect t c = fails _ _ _ c.from_residual-in_err-expect.ensures.1 (stopped_at (read_then (each_way c.requires c.pass-place.ensures.took) refl c.in_ok-expr.ensures) c.in_err-expect.ensures)

pub each-returns-in_err-name : goal.each-returns-in_err-name
each-returns-in_err-name t c = fails _ _ _ c.from_residual-in_err-name.ensures.1 (stopped (take_on (read_then (each_way c.requires c.pass-place.ensures.took) refl c.in_ok-expr.ensures) c.in_ok-expect.ensures) (λ γ free. tt) c.in_err-name.ensures)

pub each-returns-in_err-expect-2 : goal.each-returns-in_err-expect-2
each-returns-in_err-expect-2 t c = fails _ _ _ c.from_residual-in_err-expect-2.ensures.1 (stopped_at (name_on (take_on (read_then (each_way c.requires c.pass-place.ensures.took) refl c.in_ok-expr.ensures) c.in_ok-expect.ensures) c.in_ok-name.ensures) c.in_err-expect-2.ensures)

pub each-returns-in_err-expr-2 : goal.each-returns-in_err-expr-2
each-returns-in_err-expr-2 t c = fails _ _ _ c.from_residual-in_err-expr-2.ensures.1 (stopped (take_on (name_on (take_on (read_then (each_way c.requires c.pass-place.ensures.took) refl c.in_ok-expr.ensures) c.in_ok-expect.ensures) c.in_ok-name.ensures) c.in_ok-expect-2.ensures) (λ γ free. free_filter γ) c.in_err-expr-2.ensures)

pub each-returns-in_err-filter : goal.each-returns-in_err-filter
each-returns-in_err-filter t c = fails _ _ _ c.from_residual-in_err-filter.ensures.1 (stopped (push_on (read_on (take_on (name_on (take_on (read_then (each_way c.requires c.pass-place.ensures.took) refl c.in_ok-expr.ensures) c.in_ok-expect.ensures) c.in_ok-name.ensures) c.in_ok-expect-2.ensures) (λ γ free. free_filter γ) c.in_ok-expr-2.ensures) c.push.ensures (omega arith)) (λ γ free. tt) c.in_err-filter.ensures)

pub each-returns : goal.each-returns
each-returns t c =
    let w = each_way c.requires c.pass-place.ensures.took in
    let held = c.added-start.ensures in
    let h = c.in_ok-filter.ensures in
    MatchResult-weaker c.mark.result c.mark.ensures
    (λ _ x. each_read c.requires c.pass-place.ensures.took c.pass-place.ensures.place c.in_ok-expr.ensures c.in_ok-expect.ensures c.in_ok-name.ensures c.in_ok-expect-2.ensures c.in_ok-expr-2.ensures c.push.ensures h c.turn.ensures (omega (arith, held, long w)) (omega (arith, held, c.added.ensures, long c.in_ok-expr.ensures.way)) x)
    (λ f n. stopped_join (push_on (read_on (take_on (name_on (take_on (read_then w refl c.in_ok-expr.ensures) c.in_ok-expect.ensures) c.in_ok-name.ensures) c.in_ok-expect-2.ensures) (λ γ free. free_filter γ) c.in_ok-expr-2.ensures) c.push.ensures (omega arith)) h c.turn.ensures n)

-- filters

pub filter-returns-then-not-accept : goal.filter-returns-then-not-accept
filter-returns-then-not-accept t c = none_read c.if-not-accept.ensures

pub filter-returns-in_err-expr : goal.filter-returns-in_err-expr
filter-returns-in_err-expr t c = fails _ _ _ c.from_residual.ensures.1 (stopped_then (sieved start c.if-not-accept.ensures) refl c.in_err-expr.ensures)

pub filter-returns : goal.filter-returns
filter-returns t c = filter_read c.if-not-accept.ensures c.in_ok-expr.ensures c.push.ensures

-- parts

pub part-returns-in_err-expect : goal.part-returns-in_err-expect
part-returns-in_err-expect t c = fails _ _ _ c.from_residual.ensures.1 (stopped_at (part_way c.requires c.pass-place.ensures.took) c.in_err-expect.ensures)

pub part-returns-in_err-expr : goal.part-returns-in_err-expr
part-returns-in_err-expr t c = fails _ _ _ c.from_residual-in_err-expr.ensures.1 (stopped_then (take_on (part_way c.requires c.pass-place.ensures.took) c.in_ok-expect.ensures) refl c.in_err-expr.ensures)

pub part-returns-in_err-expect-2 : goal.part-returns-in_err-expect-2
part-returns-in_err-expect-2 t c = fails _ _ _ c.from_residual-in_err-expect-2.ensures.1 (stopped_at (read_then (take_on (part_way c.requires c.pass-place.ensures.took) c.in_ok-expect.ensures) refl c.in_ok-expr.ensures) c.in_err-expect-2.ensures)

pub part-returns-in_err-expr-2 : goal.part-returns-in_err-expr-2
part-returns-in_err-expr-2 t c = fails _ _ _ c.from_residual-in_err-expr-2.ensures.1 (stopped_then (take_on (read_then (take_on (part_way c.requires c.pass-place.ensures.took) c.in_ok-expect.ensures) refl c.in_ok-expr.ensures) c.in_ok-expect-2.ensures) refl c.in_err-expr-2.ensures)

pub part-returns : goal.part-returns
part-returns t c = MatchResult-weaker c.mark.result c.mark.ensures (λ _ x. part_read c.requires c.pass-place.ensures.took c.pass-place.ensures.place c.in_ok-expect.ensures c.in_ok-expr.ensures c.in_ok-expect-2.ensures c.in_ok-expr-2.ensures x) (λ f n. stopped_at (read_then (take_on (read_then (take_on (part_way c.requires c.pass-place.ensures.took) c.in_ok-expect.ensures) refl c.in_ok-expr.ensures) c.in_ok-expect-2.ensures) refl c.in_ok-expr-2.ensures) n)

-- words

pub apply-returns-in_err-operand : goal.apply-returns-in_err-operand
apply-returns-in_err-operand t c = fails _ _ _ c.from_residual.ensures.1 (stopped_operand (word_way c.args.o c.requires c.pass-place.ensures.took) c.in_err-operand.ensures)

pub apply-returns : goal.apply-returns
apply-returns t c = word_read c.args.o c.requires c.pass-place.ensures.took c.pass-place.ensures.place c.in_ok-operand.ensures c.push.ensures

pub fold-returns-in_err-o : goal.fold-returns-in_err-o
fold-returns-in_err-o t c = fails _ _ _ c.from_residual.ensures.1 (stopped (fold_way (fold_of c.args.fold) c.requires c.pass-place.ensures.took) (λ γ free. tt) c.in_err-o.ensures)

pub fold-returns-in_err-operand : goal.fold-returns-in_err-operand
fold-returns-in_err-operand t c = fails _ _ _ c.from_residual-in_err-operand.ensures.1 (stopped_operand (joint_on c.in_ok-o.o (fold_way (fold_of c.args.fold) c.requires c.pass-place.ensures.took) c.in_ok-o.ensures) c.in_err-operand.ensures)

pub fold-returns : goal.fold-returns
fold-returns t c = fold_read (fold_of c.args.fold) c.in_ok-o.o c.requires c.pass-place.ensures.took c.pass-place.ensures.place c.in_ok-o.ensures c.in_ok-operand.ensures (rw (sym c.what.ensures) c.push.ensures)

-- operands

pub operand-returns-in_err-expect : goal.operand-returns-in_err-expect
operand-returns-in_err-expect t c = fails _ _ _ c.from_residual.ensures.1 (stopped_at operand_way c.in_err-expect.ensures)

pub operand-returns-in_err-expr : goal.operand-returns-in_err-expr
operand-returns-in_err-expr t c = fails _ _ _ c.from_residual-in_err-expr.ensures.1 (stopped_then (take_on operand_way c.in_ok-expect.ensures) refl c.in_err-expr.ensures)

pub operand-returns : goal.operand-returns
operand-returns t c = MatchResult-weaker c.expect-2.result c.expect-2.ensures (λ _ x. operand_read c.in_ok-expect.ensures c.in_ok-expr.ensures x) (λ f n. stopped_at (read_then (take_on operand_way c.in_ok-expect.ensures) refl c.in_ok-expr.ensures) n)

-- any expression

pub expr-returns-in_default : goal.expr-returns-in_default
expr-returns-in_default t c = let p = c.peek.ensures in let h = c.in_default in MatchResult-weaker c.test.result c.test.ensures (λ _ a. test_read (λ x. h.not-Let (p ∙ x)) (λ x. h.not-If (p ∙ x)) a) (λ f n. record { kept = n.kept; refuses = λ γ free s. n.refuses γ free (open_test (λ x. h.not-Let (p ∙ x)) (λ x. h.not-If (p ∙ x)) s) })
