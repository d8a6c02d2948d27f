use Rattle.std.proofs.Common.{◌≡◌, ◌≤◌, false, length, drop}
use Rattle.std.specs.List.{list_any}
use Rattle.task_instances.specs.quantified_atoms.Needed.{hides}
use Rattle.task_instances.proofs.kept_rows.pattern.last_place.Given as goal

abbrev pub decreases-loop-place : goal.decreases-loop-place
decreases-loop-place l = l.place

abbrev pub invariant-loop-place : goal.invariant-loop-place
invariant-loop-place l = record {
  within : l.place ≤ length l.params;
  later : list_any (hides l.variable) (drop l.place l.params) ≡ false;
}
