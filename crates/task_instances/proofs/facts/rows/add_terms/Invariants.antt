use Rattle.std.proofs.Common.{◌≡◌, flat_map, drop}
use Rattle.task_instances.specs.fact_rows.Rows.{with_atoms}
use Rattle.task_instances.specs.facts.Adding.{value_atoms}
use Rattle.task_instances.proofs.facts.rows.add_terms.Given as goal

abbrev pub invariant-loop-item : goal.invariant-loop-item
invariant-loop-item l =
    with_atoms l.table l.rows (flat_map value_atoms (drop l.item-index l.items)) ≡ with_atoms l.table l.fn.rows (flat_map value_atoms l.items)
