use Rattle.std.proofs.Common.{◌<◌, length, map}
use Rattle.type_table.specs.Forest.{depth_at}
use Rattle.type_table.specs.Reading.{items_of}
use Rattle.type_table.proofs.AddingUp.{IsUp}
use Rattle.type_table.proofs.forest.Forest.add_up.Given as goal

abbrev pub invariant-loop-at : goal.invariant-loop-at
invariant-loop-at l =
    (l.at < length l.self.parents)
    × IsUp l.self.parents l.self.ranks l.kind (map items_of l.fn.members.items) l.object l.at (map items_of l.members.items)

abbrev pub decreases-loop-at : goal.decreases-loop-at
decreases-loop-at l = depth_at l.ranks l.at
