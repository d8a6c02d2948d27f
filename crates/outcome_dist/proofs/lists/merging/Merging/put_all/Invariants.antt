use Rattle.std.proofs.Common.{◌≡◌, map}
use Rattle.ground_meaning.specs.choices.Joint.{scaled}
use Rattle.outcome_dist.specs.lists.Piles.{merging}
use Rattle.outcome_dist.proofs.lists.merging.Merging.put_all.Given as goal

abbrev pub invariant-loop-draft : goal.invariant-loop-draft
invariant-loop-draft l =
    (goal.iterator-loop-draft).can_next l.draft-iterator × (goal.iterator-loop-draft).is_finite l.draft-iterator
    × (merging l.merged (map (scaled l.factor) l.draft-iterator.rest.items) ≡ merging l.fn.self (map (scaled l.factor) l.initial.draft-iterator.rest.items))
