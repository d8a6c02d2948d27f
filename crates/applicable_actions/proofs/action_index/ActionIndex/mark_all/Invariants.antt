use Rattle.std.proofs.Common.{◌≡◌}
use Rattle.ground_step.specs.Atoms.{true_atoms}
use Rattle.ground_step.specs.Edits.{with_atoms}
use Rattle.applicable_actions.proofs.Marks.{visits}
use Rattle.applicable_actions.proofs.action_index.ActionIndex.mark_all.Given as goal

abbrev pub invariant-loop-atom : goal.invariant-loop-atom
invariant-loop-atom l = record {
  callable : (goal.iterator-loop-atom).can_next l.atom-iterator;
  finite : (goal.iterator-loop-atom).is_finite l.atom-iterator;
  marked : with_atoms l.marks (visits l.self l.state l.self-inside.runs l.atom-iterator)
      ≡ with_atoms l.initial.marks (visits l.self l.state l.self-inside.runs (true_atoms l.state));
}
