use Rattle.std.proofs.Common.{◌≡◌, drop}
use Rattle.ground_step.specs.Edits.{without_atoms}
use Rattle.ground_step.proofs.changes.delete_all.Given as goal

abbrev pub invariant-loop-atom : goal.invariant-loop-atom
invariant-loop-atom l = without_atoms l.state (drop l.atom-index l.atoms) ≡ without_atoms l.initial.state l.atoms
