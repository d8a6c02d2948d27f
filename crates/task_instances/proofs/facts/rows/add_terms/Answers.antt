use Rattle.std.proofs.Common.{length, ◌≤◌, flat_map, arith}
use Rattle.task_instances.specs.fact_rows.Rows.{with_atoms}
use Rattle.task_instances.specs.facts.Adding.{value_atoms}
use Rattle.task_instances.proofs.lemmas.facts.ByNumber.{atoms_end}
use Rattle.task_instances.proofs.facts.rows.add_terms.Goals as goal

pub returns : goal.returns
returns c =
    let items = c.args.items.now in
    let past : length items ≤ c.loop-item.item-index = omega arith in
    atoms_end c.args.table.now value_atoms items c.loop-item.item-index c.loop-item.rows
    (with_atoms c.args.table.now c.args.rows.now (flat_map value_atoms items)) past c.loop-item.invariant
