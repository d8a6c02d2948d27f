use Rattle.std.proofs.Common.{◌≡◌, ◌+◌, ◌≤◌, length, map, drop}
use Rattle.task_instances.specs.fact_rows.Adding.{with_names}
use Rattle.grounder.specs.ObjectNames.{object_name}
use Rattle.grounder.proofs.objects.add_names.Given as goal

abbrev pub invariant-loop-object : goal.invariant-loop-object
invariant-loop-object l = record {
  names : with_names l.names (map object_name (drop l.object-index l.declared)) ≡ with_names l.fn.names (map object_name l.declared);
  count : l.total ≡ length l.names;
  few : l.total ≤ l.count + l.object-index;
}
