use Rattle.std.proofs.Common.{◌≡◌, ◌<◌, length}
use Rattle.plain_list.specs.weighted.Mean.{total}
use Rattle.policy_walk.specs.Walks.{first_above}
use Rattle.policy_walk.proofs.drawing.first_above.Given as goal

-- what is left of the items has the same one first above what is left of the number
abbrev pub invariant-loop-left : goal.invariant-loop-left
invariant-loop-left g l =
    (l.left < total (g.W.Weighted.weight_of) l.others)
    × (first_above (g.W.Weighted.weight_of) l.items l.rest ≡ first_above (g.W.Weighted.weight_of) l.others l.left)

abbrev pub decreases-loop-left : goal.decreases-loop-left
decreases-loop-left g l = length l.others
