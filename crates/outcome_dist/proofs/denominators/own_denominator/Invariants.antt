use Rattle.std.proofs.Common.{◌≡◌, ◌≤◌, length, drop}
use Rattle.outcome_dist.specs.Draws.{own_of}
use Rattle.outcome_dist.proofs.denominators.own_denominator.Given as goal

abbrev pub invariant-loop-place : goal.invariant-loop-place
invariant-loop-place l = (l.place ≤ length l.branches) × (l.own ≡ own_of (drop l.place l.branches))

abbrev pub decreases-loop-place : goal.decreases-loop-place
decreases-loop-place l = l.place
