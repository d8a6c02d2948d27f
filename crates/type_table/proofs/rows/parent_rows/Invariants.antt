use Rattle.std.proofs.Common.{◌≡◌, map, take}
use Rattle.type_table.specs.Reading.{items_of}
use Rattle.type_table.specs.Rows.{EachRow, parents_of}
use Rattle.type_table.proofs.rows.parent_rows.Given as goal

abbrev pub invariant-loop-link : goal.invariant-loop-link
invariant-loop-link l = EachRow l.count (λ k row. row ≡ parents_of (take l.link-index l.links) k) (map items_of l.rows.items)
