-- What is merged so far is the first entries of both lists in one.
use Rattle.std.proofs.Common.{length, ◌-◌, ◌+◌, ◌≤◌, take}
use Rattle.core_run.specs.Merged.{AreMerged}
use Rattle.core_run.proofs.merging.merge.Given as goal

abbrev pub invariant-loop-i : goal.invariant-loop-i
invariant-loop-i l = record {
  first : l.i ≤ length l.first;
  second : l.j ≤ length l.second;
  merged : AreMerged (take l.i l.first) (take l.j l.second) l.merged.items;
}

abbrev pub decreases-loop-i : goal.decreases-loop-i
decreases-loop-i l = (length l.first - l.i) + (length l.second - l.j)
