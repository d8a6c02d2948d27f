-- Ways to bind variables, counted by the table of a task.
use Rattle.std.proofs.Common.{◌≡◌, List, [], length, ◌∙◌}
use Rattle.ppddl_model.specs.declared.tree.Param.{Param}
use Rattle.ppddl_model.specs.declared.tree.Task.{Task}
use Rattle.ppddl_model.specs.Objects.{Binding, bindings}
use Rattle.ppddl_model.specs.Steps.{world}
use Rattle.ground_terms.specs.sizes.Counted.{counted}
use Rattle.ground_terms.proofs.lemmas.sizes.CostSteps.{bindings-valued}
use Rattle.task_instances.proofs.lemmas.known_conditions.KnowSteps.{no_bindings}
use Rattle.task_instances.specs.facts.Facts.{table_of}

-- where none is counted, there is none on top of any binding
pub no_ways : (task : Task) (ps : List Param) (b : Binding) → counted (length (bindings (table_of task) ps [])) ≡ 0 → bindings (world task) ps b ≡ []
no_ways task ps b none = bindings-valued (table_of task) task.problem.values ps b ∙ no_bindings (table_of task) ps b none
