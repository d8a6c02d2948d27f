use Rattle.std.proofs.Common.{◌≡◌, ◌++◌, map}
use Rattle.std.specs.List.{list_any}
use Rattle.ground_meaning.specs.choices.Joint.{charged, reduced}
use Rattle.ground_meaning.specs.choices.Limits.{is_dear}
use Rattle.outcome_dist.proofs.lists.narrowing.narrowed.Given as goal

abbrev pub invariant-loop-draft : goal.invariant-loop-draft
invariant-loop-draft l =
    (goal.iterator-loop-draft).can_next l.draft-iterator × (goal.iterator-loop-draft).is_finite l.draft-iterator
    × (l.narrow.items ++ map (reduced l.divisor) (map (charged l.base) l.draft-iterator.rest.items)
    ≡ map (reduced l.divisor) (map (charged l.base) l.initial.draft-iterator.rest.items))
    × (list_any is_dear (map (charged l.base) l.draft-iterator.rest.items) ≡ list_any is_dear (map (charged l.base) l.initial.draft-iterator.rest.items))
