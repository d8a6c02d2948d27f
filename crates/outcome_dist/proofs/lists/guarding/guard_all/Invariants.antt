use Rattle.std.proofs.Common.{◌≡◌, ◌++◌, drop, map}
use Rattle.ground_meaning.specs.choices.Joint.{guard}
use Rattle.outcome_dist.proofs.lists.guarding.guard_all.Given as goal

abbrev pub invariant-loop-draft : goal.invariant-loop-draft
invariant-loop-draft l = l.guarded.items ++ map (guard l.condition) (drop l.draft-index l.drafts) ≡ map (guard l.condition) l.drafts
