use Rattle.std.proofs.Common.{◌≡◌, ◌++◌, drop}
use Rattle.task_instances.specs.kept_rows.Patterns.{numbers_in, row_under}
use Rattle.task_instances.proofs.kept_rows.pattern.Pattern.write_anew.Given as goal

abbrev pub invariant-loop-slot : goal.invariant-loop-slot
invariant-loop-slot l = l.into.items ++ numbers_in l.row (drop l.slot-index l.slot-items) ≡ row_under l.self l.row
