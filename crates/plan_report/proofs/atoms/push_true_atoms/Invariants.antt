use Rattle.std.proofs.Common.{◌≡◌, ◌++◌}
use Rattle.plan_report.specs.Reports.{atoms_text}
use Rattle.plan_report.proofs.atoms.push_true_atoms.Given as goal

abbrev pub invariant-loop-number : goal.invariant-loop-number
invariant-loop-number l = l.out.items ≡ l.initial.out.items ++ atoms_text l.atoms l.yielded
