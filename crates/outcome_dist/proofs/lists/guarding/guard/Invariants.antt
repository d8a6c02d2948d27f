use Rattle.std.proofs.Common.{◌≡◌, ◌++◌, drop, map}
use Rattle.ground_meaning.specs.choices.Joint.{under, guard}
use Rattle.outcome_dist.proofs.lists.guarding.guard.Given as goal

abbrev pub invariant-loop-part : goal.invariant-loop-part
invariant-loop-part l = l.guarded.items ++ map (under l.condition) (drop l.part-index l.part-items) ≡ (guard l.condition l.fn.draft).guarded
