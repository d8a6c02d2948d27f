use Rattle.std.proofs.Common.{◌≡◌, ◌≤◌, length, drop}
use Rattle.outcome_dist.specs.Draws.{inner_of}
use Rattle.outcome_dist.proofs.denominators.inner_denominator.Given as goal

abbrev pub invariant-loop-place : goal.invariant-loop-place
invariant-loop-place l = (l.place ≤ length l.branches) × (l.inner ≡ inner_of l.table (drop l.place l.branches))

abbrev pub decreases-loop-place : goal.decreases-loop-place
decreases-loop-place l = l.place
