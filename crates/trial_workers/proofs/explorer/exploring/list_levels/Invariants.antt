-- The listed states are levels as far as they are gone through.
use Rattle.std.proofs.Common.{◌+◌, ◌-◌}
use Rattle.trial_workers.specs.explorer.Found.{IsRoomFor}
use Rattle.trial_workers.specs.explorer.Exploring.{IsUnderWay}
use Rattle.trial_workers.proofs.explorer.exploring.list_levels.Given as goal

abbrev pub invariant-loop-levels : goal.invariant-loop-levels
invariant-loop-levels l = record {
  under_way : IsUnderWay l.index l.most l.levels;
  room : IsRoomFor l.index l.scratch;
}

abbrev pub decreases-loop-levels : goal.decreases-loop-levels
decreases-loop-levels l = l.most + 1 - l.levels.next
