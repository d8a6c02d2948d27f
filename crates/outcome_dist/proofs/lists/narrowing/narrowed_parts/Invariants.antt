use Rattle.std.proofs.Common.{◌≡◌, ◌++◌}
use Rattle.outcome_dist.proofs.lists.narrowing.narrowed_parts.Given as goal

abbrev pub invariant-loop-part : goal.invariant-loop-part
invariant-loop-part l =
    (goal.iterator-loop-part).can_next l.part-iterator × (goal.iterator-loop-part).is_finite l.part-iterator
    × (l.narrow.items ++ l.part-iterator.rest.items ≡ l.initial.part-iterator.rest.items)
