-- The marks of the parts from one on.
use Rattle.std.proofs.Common.{◌≤◌, ◌<◌, ◌-◌, ◌^◌, length, drop}
use Rattle.ground_step.specs.Acting.{AreActing}
use Rattle.ground_step.proofs.prepared_choice.acting_parts.Given as goal

abbrev pub decreases-loop-place : goal.decreases-loop-place
decreases-loop-place l = l.place

abbrev pub invariant-loop-place : goal.invariant-loop-place
invariant-loop-place l =
    AreActing l.marks (drop l.place l.parts) × (l.marks < 2 ^ (length l.parts - l.place)) × (l.place ≤ length l.parts)
