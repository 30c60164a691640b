use Rattle.reader.proofs.Ways.{left}
use Rattle.reader.proofs.parser.Parser.+types.Given as goal

abbrev pub decreases-list_type : goal.decreases-list_type
decreases-list_type l = left l.self.now 0

abbrev pub decreases-pair_type : goal.decreases-pair_type
decreases-pair_type l = left l.self.now 0

abbrev pub decreases-type_phrase : goal.decreases-type_phrase
decreases-type_phrase l = left l.self.now 1
