use Rattle.std.proofs.Common.{◌≡◌, take}
use Rattle.outcome_dist.proofs.lists.copying.+copied.Given as goal

abbrev pub decreases-copied : goal.decreases-copied
decreases-copied l = goal.size-copied l

abbrev pub invariant-loop-part : goal.invariant-loop-part
invariant-loop-part l = l.copies.items ≡ take l.part-index l.part-items

abbrev pub invariant-loop-other : goal.invariant-loop-other
invariant-loop-other l = l.copies.items ≡ take l.other-index l.other-items
