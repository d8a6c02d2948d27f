use Rattle.type_table.specs.Forest.{depth_at}
use Rattle.type_table.proofs.Climbing.{IsWalk}
use Rattle.type_table.proofs.forest.Forest.leads_to.Given as goal

abbrev pub invariant-loop-at : goal.invariant-loop-at
invariant-loop-at l = IsWalk l.self.parents l.kind l.other l.at

abbrev pub decreases-loop-at : goal.decreases-loop-at
decreases-loop-at l = depth_at l.ranks l.at
