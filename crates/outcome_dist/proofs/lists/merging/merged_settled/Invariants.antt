use Rattle.std.proofs.Common.{◌≡◌, [], map}
use Rattle.outcome_dist.specs.lists.Piles.{merging, settled}
use Rattle.outcome_dist.proofs.lists.merging.merged_settled.Given as goal

abbrev pub invariant-loop-draft : goal.invariant-loop-draft
invariant-loop-draft l =
    (goal.iterator-loop-draft).can_next l.draft-iterator × (goal.iterator-loop-draft).is_finite l.draft-iterator
    × (merging l.merged (map settled l.draft-iterator.rest.items) ≡ merging [] (map settled l.initial.draft-iterator.rest.items))
