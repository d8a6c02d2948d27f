use Rattle.std.proofs.Common.{◌≡◌, length, ap, ◌∙◌, arith}
use Rattle.ground_step.specs.Edits.{with_atoms}
use Rattle.plan_report.specs.certificates.Kept.{atoms_in}
use Rattle.plan_report.proofs.lemmas.certificates.Used.{marks, marks_long}
use Rattle.plan_report.proofs.certificates.atoms.used_atoms.Goals as goal

pub atoms_of-requires : goal.atoms_of-requires
atoms_of-requires c =
    let g = c.args.problem.now in let rows = c.args.rows.now in
    let same : c.mark_all.new.marks ≡ marks g rows = c.mark_all.ensures ∙ ap (λ s. with_atoms s (atoms_in rows)) c.in_ok-marks.ensures.state in
    let long = ap length same ∙ marks_long g rows in
    let few = c.in_ok-marks.ensures.few in omega arith
