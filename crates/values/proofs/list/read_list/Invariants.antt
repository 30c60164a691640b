use Rattle.std.proofs.Common.{◌-◌, length}
use Rattle.values.proofs.Rowing.{ListOpened}
use Rattle.values.proofs.list.read_list.Given as goal

abbrev pub invariant-loop-behind : goal.invariant-loop-behind
invariant-loop-behind g l = ListOpened g.E.Elements.spelled g.E.Elements.Keeps l.text l.at l.initial.elements l.elements

abbrev pub decreases-loop-behind : goal.decreases-loop-behind
decreases-loop-behind g l = length l.text - l.at
