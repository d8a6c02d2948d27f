use Rattle.std.proofs.Common.{◌≡◌, map, take}
use Rattle.type_table.specs.Numbered.{each_once}
use Rattle.task_instances.specs.fact_rows.Rows.{declared_name}
use Rattle.task_instances.proofs.fact_rows.atom_rows.AtomRows.new.Given as goal

abbrev pub invariant-loop-predicate : goal.invariant-loop-predicate
invariant-loop-predicate l = l.names ≡ each_once (map declared_name (take l.predicate-index l.declared))
