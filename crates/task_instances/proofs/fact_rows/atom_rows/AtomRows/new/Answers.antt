use Rattle.std.proofs.Common.{ap, ◌∙◌}
use Rattle.type_table.specs.Numbered.{with_name}
use Rattle.task_instances.proofs.lemmas.fact_rows.RowSteps.{declared_more}
use Rattle.task_instances.proofs.fact_rows.atom_rows.AtomRows.new.Goals as goal

pub loop-predicate-preserved : goal.loop-predicate-preserved
loop-predicate-preserved c =
    declared_more c.args.declared.now c.loop-predicate.predicate-index c.predicate-item.result c.loop-predicate.names c.add.new.self
    c.loop-predicate-test.true c.predicate-item.is c.loop-predicate.invariant
    (c.in_ok-add.ensures ∙ ap (with_name c.loop-predicate.names) c.as_slice.ensures)
