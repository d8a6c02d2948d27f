use Rattle.std.proofs.Common.{◌≡◌, length, take, drop}
use Rattle.std.specs.Prelude.{flat_map}
use Rattle.ppddl_model.specs.Steps.{world}
use Rattle.ground_terms.specs.terms.Scopes.{binding_of}
use Rattle.task_instances.specs.facts.Facts.{table_of}
use Rattle.task_instances.specs.kept_rows.Kept.{IsAdded}
use Rattle.task_instances.specs.kept_rows.Stages.{params_of}
use Rattle.task_instances.proofs.lemmas.kept_rows.BindSteps.{ways_with}
use Rattle.task_instances.proofs.kept_rows.binding.+bind.Given as goal

abbrev pub decreases-bind : goal.decreases-bind
decreases-bind l = length l.stages.now

abbrev pub invariant-loop-object : goal.invariant-loop-object
invariant-loop-object l = record {
  row : l.row.items ≡ l.fn.row.items;
  rows :
      IsAdded l.facts l.action
      (flat_map (ways_with (table_of l.facts) (world l.facts) (params_of (drop 1 l.stages)) l.stage.param.now (binding_of l.scope)) (take l.object-index l.object-items))
      l.fn.rows l.rows;
}
