use Rattle.std.proofs.Common.{◌∙◌, sym}
use Rattle.certificate.specs.declared.named.NamedRow.{NamedRow}
use Rattle.certificate.proofs.NumberingLoop.{rows_more}
use Rattle.certificate.proofs.reading.numbering.atoms_table.Goals as goal

pub loop-row-preserved : goal.loop-row-preserved
loop-row-preserved c =
    rw (c.in_ok-insert_all.ensures, c.as_slice.ensures) (sym (rows_more (λ (r : NamedRow). r.atoms) c.loop-row.names.keys c.args.rows.now c.loop-row.row-index c.row-item.result c.loop-row-test.true c.row-item.is) ∙ c.loop-row.invariant)
