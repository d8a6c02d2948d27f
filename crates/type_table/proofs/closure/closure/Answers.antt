use Rattle.std.proofs.Common.{◌+◌, map, sym, subst}
use Rattle.type_table.specs.Reading.{items_of}
use Rattle.type_table.specs.Rows.{EachRow, IsReached}
use Rattle.type_table.proofs.RowSteps.{rows_more}
use Rattle.type_table.proofs.closure.closure.Goals as goal

pub loop-kind-preserved : goal.loop-kind-preserved
loop-kind-preserved c =
    let rows = map items_of c.args.parents.now in
    subst (EachRow (c.loop-kind.kind + 1) (IsReached rows)) (sym c.in_ok-push.ensures.items)
    (rows_more c.loop-kind.kind (IsReached rows) c.loop-kind.rows.items c.in_ok-reached.field-0 c.loop-kind.invariant c.in_ok-reached.ensures)
