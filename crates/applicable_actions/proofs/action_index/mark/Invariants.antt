use Rattle.std.proofs.Common.{◌≡◌, drop}
use Rattle.ground_step.specs.Edits.{with_atoms}
use Rattle.applicable_actions.specs.Index.{open_codes}
use Rattle.applicable_actions.proofs.action_index.mark.Given as goal

abbrev pub invariant-loop-entry : goal.invariant-loop-entry
invariant-loop-entry l =
    with_atoms l.marks (open_codes l.conditions l.state (drop l.entry-index l.run))
    ≡ with_atoms l.initial.marks (open_codes l.conditions l.state l.run)
