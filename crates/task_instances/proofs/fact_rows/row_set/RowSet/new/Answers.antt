use Rattle.std.proofs.Common.{rules, ap, map}
use Rattle.type_table.specs.Reading.{items_of}
use Rattle.task_instances.proofs.lemmas.fact_rows.Marking.{none_marked}
use Rattle.task_instances.proofs.fact_rows.row_set.RowSet.new.Goals as goal

pub invariant_of-result : goal.invariant_of-result
invariant_of-result c = none_marked c.in_ok-marks.marks.items (map items_of c.new.result.keys) (search rules) (ap (map items_of) c.new.ensures.empty)
