use Rattle.std.proofs.Common.{◌≡◌}
use Rattle.ground_step.specs.Edits.{with_atoms}
use Rattle.plan_report.proofs.certificates.atoms.mark.Given as goal

abbrev pub invariant-loop-atom : goal.invariant-loop-atom
invariant-loop-atom l = record {
  callable : (goal.iterator-loop-atom).can_next l.atom-iterator;
  finite : (goal.iterator-loop-atom).is_finite l.atom-iterator;
  marked : with_atoms l.marks l.atom-iterator ≡ with_atoms l.initial.marks l.row.atoms;
}
