-- The atoms of the rows from the next one on.
use Rattle.std.proofs.Common.{◌+◌, drop, sym, ap, ◌∙◌}
use Rattle.ground_step.specs.Edits.{with_atoms}
use Rattle.plan_report.specs.certificates.Kept.{atoms_in}
use Rattle.plan_report.proofs.lemmas.certificates.Loops.{atoms_more}
use Rattle.plan_report.proofs.certificates.atoms.mark_all.Goals as goal

pub loop-row-preserved : goal.loop-row-preserved
loop-row-preserved c =
    ap (λ s. with_atoms s (atoms_in (drop (c.loop-row.row-index + 1) c.args.rows.now)))
    c.mark.ensures
    ∙ sym (atoms_more c.loop-row.marks c.args.rows.now c.loop-row.row-index c.row-item.result c.loop-row-test.true c.row-item.is)
    ∙ c.loop-row.invariant
