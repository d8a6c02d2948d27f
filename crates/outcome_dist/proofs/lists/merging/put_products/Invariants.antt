use Rattle.std.proofs.Common.{◌≡◌, drop, map}
use Rattle.ground_meaning.specs.choices.Joint.{joined}
use Rattle.outcome_dist.specs.lists.Piles.{merging}
use Rattle.outcome_dist.proofs.lists.merging.put_products.Given as goal

abbrev pub invariant-loop-other : goal.invariant-loop-other
invariant-loop-other l = merging l.merged (map (joined l.first) (drop l.other-index l.others)) ≡ merging l.fn.list (map (joined l.first) l.others)
