use Rattle.std.proofs.Common.{◌≡◌, [], map, drop}
use Rattle.task_instances.specs.fact_rows.Adding.{with_names}
use Rattle.task_instances.specs.facts.Adding.{value_key}
use Rattle.task_instances.proofs.facts.keys.keys_of_values.Given as goal

abbrev pub invariant-loop-item : goal.invariant-loop-item
invariant-loop-item l = with_names l.keys (map value_key (drop l.item-index l.items)) ≡ with_names [] (map value_key l.items)
