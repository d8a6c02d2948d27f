use Rattle.std.proofs.Common.{◌-◌, length, map}
use Rattle.type_table.specs.Reading.{items_of}
use Rattle.type_table.proofs.RowSteps.{Searched}
use Rattle.type_table.proofs.closure.reached.Given as goal

abbrev pub invariant-loop-next : goal.invariant-loop-next
invariant-loop-next l = Searched (map items_of l.parents) l.kind l.next l.seen.keys

abbrev pub decreases-loop-next : goal.decreases-loop-next
decreases-loop-next l = length l.parents - l.next
