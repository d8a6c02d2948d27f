use Rattle.std.proofs.Common.{map}
use Rattle.type_table.specs.Reading.{items_of}
use Rattle.type_table.specs.Rows.{EachRow, IsReached}
use Rattle.type_table.proofs.closure.closure.Given as goal

abbrev pub invariant-loop-kind : goal.invariant-loop-kind
invariant-loop-kind l = EachRow l.kind (IsReached (map items_of l.parents)) l.rows.items
