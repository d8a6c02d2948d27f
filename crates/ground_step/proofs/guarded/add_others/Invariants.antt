use Rattle.std.proofs.Common.{◌≡◌, drop}
use Rattle.ground_model.specs.Packed.{has_bit}
use Rattle.ground_step.specs.Edits.{with_parts}
use Rattle.ground_step.proofs.guarded.add_others.Given as goal

abbrev pub invariant-loop-other : goal.invariant-loop-other
invariant-loop-other l =
    with_parts (has_bit l.before) l.state (drop l.other-index l.parts)
    ≡ with_parts (has_bit l.before) l.initial.state l.parts
