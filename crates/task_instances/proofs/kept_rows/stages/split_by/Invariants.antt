use Rattle.std.proofs.Common.{◌≡◌, not, filter, take}
use Rattle.task_instances.specs.kept_rows.Stages.{names_variable, conditions_of}
use Rattle.task_instances.proofs.kept_rows.stages.split_by.Given as goal

abbrev pub invariant-loop-condition : goal.invariant-loop-condition
invariant-loop-condition l = record {
  naming : conditions_of l.parts.naming.items ≡ filter (names_variable l.variable) (conditions_of (take l.condition-index l.conditions));
  others :
      conditions_of l.parts.others.items
      ≡ filter (λ c. not (names_variable l.variable c)) (conditions_of (take l.condition-index l.conditions));
}
