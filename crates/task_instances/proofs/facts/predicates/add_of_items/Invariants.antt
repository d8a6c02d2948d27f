use Rattle.std.proofs.Common.{◌≡◌, flat_map, drop}
use Rattle.ppddl_model.specs.Changing.{chance_predicates}
use Rattle.task_instances.specs.fact_rows.Adding.{with_names}
use Rattle.task_instances.proofs.facts.predicates.add_of_items.Given as goal

abbrev pub invariant-loop-item : goal.invariant-loop-item
invariant-loop-item l = with_names l.names (flat_map chance_predicates (drop l.item-index l.items)) ≡ with_names l.fn.names (flat_map chance_predicates l.items)
