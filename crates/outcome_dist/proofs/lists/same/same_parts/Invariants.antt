use Rattle.std.proofs.Common.{◌≡◌, drop, length, ◌-◌}
use Rattle.std.specs.Cmp.Lexicographic.{pointwise}
use Rattle.ground_meaning.specs.choices.Same.{same_part}
use Rattle.outcome_dist.proofs.lists.same.same_parts.Given as goal

abbrev pub invariant-loop-place : goal.invariant-loop-place
invariant-loop-place l = pointwise same_part l.first l.second ≡ pointwise same_part (drop l.place l.first) (drop l.place l.second)

abbrev pub decreases-loop-place : goal.decreases-loop-place
decreases-loop-place l = length l.first - l.place
