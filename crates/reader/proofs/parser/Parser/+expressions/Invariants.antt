use Rattle.std.proofs.Common.{length, ◌-◌, ◌+◌}
use Rattle.grammar.specs.Grammar.{chains, posts}
use Rattle.grammar.specs.Law.{links, indexes}
use Rattle.reader.specs.Ranks.{chain_of}
use Rattle.reader.specs.Steps.{Loops, Counts}
use Rattle.reader.proofs.Ranks.{level}
use Rattle.reader.proofs.Ways.{left}
use Rattle.reader.proofs.parser.Parser.+expressions.Given as goal

abbrev pub decreases-apply : goal.decreases-apply
decreases-apply l = left l.self.now 0

abbrev pub decreases-atom : goal.decreases-atom
decreases-atom l = left l.self.now 1

abbrev pub decreases-bind : goal.decreases-bind
decreases-bind l = left l.self.now 7

abbrev pub decreases-chain : goal.decreases-chain
decreases-chain l = left l.self.now (4 + level l.rank)

abbrev pub decreases-choice : goal.decreases-choice
decreases-choice l = left l.self.now 7

abbrev pub decreases-comparand : goal.decreases-comparand
decreases-comparand l = left l.self.now 9

abbrev pub decreases-each : goal.decreases-each
decreases-each l = left l.self.now 0

abbrev pub decreases-expr : goal.decreases-expr
decreases-expr l = left l.self.now 8

abbrev pub decreases-filter : goal.decreases-filter
decreases-filter l = left l.self.now 0

abbrev pub decreases-fold : goal.decreases-fold
decreases-fold l = left l.self.now 0

abbrev pub decreases-group : goal.decreases-group
decreases-group l = left l.self.now 0

abbrev pub decreases-link : goal.decreases-link
decreases-link l = left l.self.now (3 + level l.rank)

abbrev pub decreases-list : goal.decreases-list
decreases-list l = left l.self.now 0

abbrev pub decreases-operand : goal.decreases-operand
decreases-operand l = left l.self.now 0

abbrev pub decreases-part : goal.decreases-part
decreases-part l = left l.self.now 0

abbrev pub decreases-post : goal.decreases-post
decreases-post l = left l.self.now 2

abbrev pub decreases-right : goal.decreases-right
decreases-right l = left l.self.now 9

abbrev pub decreases-test : goal.decreases-test
decreases-test l = left l.self.now 7

abbrev pub invariant-list-loop-self : goal.invariant-list-loop-self
invariant-list-loop-self l = Counts l.initial.n l.n l.initial.self l.self

abbrev pub decreases-list-loop-self : goal.decreases-list-loop-self
decreases-list-loop-self l = length l.self.tokens.now - l.self.at

abbrev pub invariant-post-loop-self : goal.invariant-post-loop-self
invariant-post-loop-self l = Loops posts indexes l.initial.self l.self

abbrev pub decreases-post-loop-self : goal.decreases-post-loop-self
decreases-post-loop-self l = length l.self.tokens.now - l.self.at

abbrev pub invariant-chain-loop-sign : goal.invariant-chain-loop-sign
invariant-chain-loop-sign l = Loops (chains (chain_of l.rank)) (links (chain_of l.rank)) l.initial.self l.self

abbrev pub decreases-chain-loop-sign : goal.decreases-chain-loop-sign
decreases-chain-loop-sign l = length l.self.tokens.now - l.self.at
