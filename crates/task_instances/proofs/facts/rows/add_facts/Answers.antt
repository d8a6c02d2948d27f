use Rattle.std.proofs.Common.{length, ◌≤◌, flat_map, arith}
use Rattle.ppddl_model.specs.Changing.{fact_atoms}
use Rattle.task_instances.specs.fact_rows.Rows.{with_atoms}
use Rattle.task_instances.proofs.lemmas.facts.ByNumber.{atoms_end}
use Rattle.task_instances.proofs.facts.rows.add_facts.Goals as goal

pub returns : goal.returns
returns c =
    let items = c.args.items.now in
    let past : length items ≤ c.loop-item.item-index = omega arith in
    atoms_end c.args.table.now fact_atoms items c.loop-item.item-index c.loop-item.rows
    (with_atoms c.args.table.now c.args.rows.now (flat_map fact_atoms items)) past c.loop-item.invariant
