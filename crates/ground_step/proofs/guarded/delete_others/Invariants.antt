use Rattle.std.proofs.Common.{◌≡◌, ◌+◌, drop}
use Rattle.ground_model.specs.Packed.{has_bit}
use Rattle.ground_model.specs.Choices.{active_cost}
use Rattle.ground_step.specs.Edits.{without_parts}
use Rattle.ground_step.proofs.guarded.delete_others.Given as goal

abbrev pub invariant-loop-other : goal.invariant-loop-other
invariant-loop-other l =
    (without_parts (has_bit l.before) l.state (drop l.other-index l.parts)
    ≡ without_parts (has_bit l.before) l.initial.state l.parts)
    × (l.sum + active_cost (has_bit l.before) (drop l.other-index l.parts)
    ≡ l.cost + active_cost (has_bit l.before) l.parts)
