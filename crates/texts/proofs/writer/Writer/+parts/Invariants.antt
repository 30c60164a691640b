use Rattle.std.proofs.Common.{◌+◌, ◌*◌, max}
use Rattle.types.specs.TypeRefs.{meant}
use Rattle.texts.proofs.Writing.{Listed}
use Rattle.texts.proofs.writer.Writer.+parts.Given as goal

abbrev pub decreases-list : goal.decreases-list
decreases-list l = 2 * l.element.code + 1

abbrev pub decreases-pair : goal.decreases-pair
decreases-pair l = 2 * max l.left.code l.right.code + 1

abbrev pub decreases-value : goal.decreases-value
decreases-value l = 2 * l.t.code

abbrev pub invariant-list-loop : goal.invariant-list-loop
invariant-list-loop l = Listed (meant l.element) l.count l.counter l.fn.self l.self
