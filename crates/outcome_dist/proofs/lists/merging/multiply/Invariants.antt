use Rattle.std.proofs.Common.{◌≡◌, [], drop}
use Rattle.plain_list.specs.weighted.Mean.{products}
use Rattle.ground_meaning.specs.choices.Joint.{joined}
use Rattle.outcome_dist.specs.lists.Piles.{merging}
use Rattle.outcome_dist.proofs.lists.merging.multiply.Given as goal

abbrev pub invariant-loop-draft : goal.invariant-loop-draft
invariant-loop-draft l = merging l.merged (products joined (drop l.draft-index l.first) l.others) ≡ merging [] (products joined l.first l.others)
