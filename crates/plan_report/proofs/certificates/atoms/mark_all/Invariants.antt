use Rattle.std.proofs.Common.{◌≡◌, drop}
use Rattle.ground_step.specs.Edits.{with_atoms}
use Rattle.plan_report.specs.certificates.Kept.{atoms_in}
use Rattle.plan_report.proofs.certificates.atoms.mark_all.Given as goal

abbrev pub invariant-loop-row : goal.invariant-loop-row
invariant-loop-row l = with_atoms l.marks (atoms_in (drop l.row-index l.rows)) ≡ with_atoms l.initial.marks (atoms_in l.rows)
