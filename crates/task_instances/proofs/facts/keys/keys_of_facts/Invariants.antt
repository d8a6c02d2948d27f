use Rattle.std.proofs.Common.{◌≡◌, [], flat_map, drop}
use Rattle.task_instances.specs.fact_rows.Adding.{with_names}
use Rattle.task_instances.specs.facts.Adding.{fact_keys}
use Rattle.task_instances.proofs.facts.keys.keys_of_facts.Given as goal

abbrev pub invariant-loop-item : goal.invariant-loop-item
invariant-loop-item l = with_names l.keys (flat_map fact_keys (drop l.item-index l.items)) ≡ with_names [] (flat_map fact_keys l.items)
