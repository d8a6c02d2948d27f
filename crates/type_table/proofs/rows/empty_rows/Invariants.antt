use Rattle.std.proofs.Common.{◌≡◌, map, []}
use Rattle.type_table.specs.Reading.{items_of}
use Rattle.type_table.specs.Rows.{EachRow}
use Rattle.type_table.proofs.rows.empty_rows.Given as goal

abbrev pub invariant-loop-kind : goal.invariant-loop-kind
invariant-loop-kind l = EachRow l._kind (λ _ row. row ≡ []) (map items_of l.rows.items)
