use Rattle.std.proofs.Common.{◌≡◌, drop}
use Rattle.ground_step.specs.Edits.{with_atoms}
use Rattle.ground_step.proofs.changes.add_all.Given as goal

abbrev pub invariant-loop-atom : goal.invariant-loop-atom
invariant-loop-atom l = with_atoms l.state (drop l.atom-index l.atoms) ≡ with_atoms l.initial.state l.atoms
