-- The table is that of the problem and the certificate.
use Rattle.certificate_check.proofs.RowSides.{told_sides}
use Rattle.certificate_check.proofs.sides.row_sides.Goals as goal

pub returns : goal.returns
returns c =
    told_sides c.in_ok-rows.rows c.in_ok-table.table c.args.problem.now c.args.certificate.now c.in_ok-table.ensures c.in_ok-rows.ensures.problem
    c.in_ok-rows.ensures.certificate c.args.place c.sides_in.result c.sides_in.ensures
