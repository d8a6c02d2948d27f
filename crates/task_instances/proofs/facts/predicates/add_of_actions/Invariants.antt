use Rattle.std.proofs.Common.{◌≡◌, flat_map, drop}
use Rattle.ppddl_model.specs.declared.tree.Action.{Action}
use Rattle.ppddl_model.specs.Changing.{predicates_of}
use Rattle.task_instances.specs.fact_rows.Adding.{with_names}
use Rattle.task_instances.proofs.facts.predicates.add_of_actions.Given as goal

abbrev pub invariant-loop-action : goal.invariant-loop-action
invariant-loop-action l = with_names l.names (flat_map (λ (a : Action). predicates_of a.effect) (drop l.action-index l.actions)) ≡ with_names l.fn.names (flat_map (λ (a : Action). predicates_of a.effect) l.actions)
