use Rattle.std.proofs.Common.{◌≡◌, ◌+◌, drop}
use Rattle.plain_list.specs.weighted.Mean.{total}
use Rattle.ground_meaning.specs.choices.Joint.{weight_of}
use Rattle.outcome_dist.proofs.lists.merging.Merging.total.Given as goal

abbrev pub invariant-loop-draft : goal.invariant-loop-draft
invariant-loop-draft l = l.sum + total weight_of (drop l.draft-index l.draft-items) ≡ total weight_of l.fn.self
