use Rattle.std.proofs.Common.{◌≡◌, drop}
use Rattle.task_instances.specs.fact_rows.Marks.{mixed}
use Rattle.task_instances.proofs.fact_rows.row_set.mark_of.Given as goal

abbrev pub invariant-loop-number : goal.invariant-loop-number
invariant-loop-number l = mixed l.hash (drop l.number-index l.row) ≡ mixed 0 l.row
