use Rattle.std.proofs.Common.{length, map, take}
use Rattle.type_table.specs.Reading.{items_of}
use Rattle.type_table.specs.Rows.{EachRow, IsGrown}
use Rattle.type_table.proofs.rows.add_to_row.Given as goal

abbrev pub invariant-loop-kind : goal.invariant-loop-kind
invariant-loop-kind l =
    EachRow (length l.fn.members.items) (IsGrown (map items_of l.fn.members.items) (take l.kind-index l.row) l.object) (map items_of l.members.items)
