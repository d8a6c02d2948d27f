use Rattle.std.proofs.Common.{◌≡◌, drop}
use Rattle.std.specs.List.{list_any}
use Rattle.task_instances.specs.kept_rows.Stages.{names_variable}
use Rattle.task_instances.proofs.kept_rows.variables.+names_variable.Given as goal

abbrev pub decreases-names_variable : goal.decreases-names_variable
decreases-names_variable l = goal.size-names_variable l

abbrev pub invariant-loop-part : goal.invariant-loop-part
invariant-loop-part l = list_any (names_variable l.variable) (drop l.part-index l.part-items) ≡ names_variable l.variable l.condition
