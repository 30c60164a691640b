use Rattle.std.proofs.Common.{◌+◌, ◌-◌, ◌*◌, length, max}
use Rattle.types.specs.TypeRefs.{meant}
use Rattle.texts.proofs.ListPhrases.{ListSoFar}
use Rattle.texts.proofs.reader.Reader.+phrases.Given as goal

abbrev pub decreases-list : goal.decreases-list
decreases-list l = 2 * l.element.code + 1

abbrev pub decreases-pair : goal.decreases-pair
decreases-pair l = 2 * max l.left.code l.right.code + 1

abbrev pub decreases-value : goal.decreases-value
decreases-value l = 2 * l.t.code

abbrev pub decreases-list-loop-more : goal.decreases-list-loop-more
decreases-list-loop-more l = length l.self.text.now - l.self.at

abbrev pub invariant-list-loop-more : goal.invariant-list-loop-more
invariant-list-loop-more l = ListSoFar (meant l.element) l.more l.fn.self l.self l.header l.count
