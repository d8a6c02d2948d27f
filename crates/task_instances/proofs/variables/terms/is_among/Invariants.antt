use Rattle.std.proofs.Common.{◌≡◌, drop}
use Rattle.std.specs.List.{list_any}
use Rattle.task_instances.specs.kept_rows.Stages.{is_variable}
use Rattle.task_instances.proofs.variables.terms.is_among.Given as goal

abbrev pub invariant-loop-term : goal.invariant-loop-term
invariant-loop-term l = list_any (is_variable l.variable) (drop l.term-index l.terms) ≡ list_any (is_variable l.variable) l.terms
