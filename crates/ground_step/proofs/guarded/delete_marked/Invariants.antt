use Rattle.std.proofs.Common.{◌≡◌, ◌+◌, ◌*◌, ◌^◌, drop}
use Rattle.ground_model.specs.Packed.{has_bit}
use Rattle.ground_model.specs.Choices.{active_cost}
use Rattle.ground_step.specs.Acting.{AreActing}
use Rattle.ground_step.specs.Edits.{without_parts}
use Rattle.ground_step.specs.Marks.{marks_of}
use Rattle.ground_step.proofs.guarded.delete_marked.Given as goal

abbrev pub invariant-loop-place : goal.invariant-loop-place
invariant-loop-place l =
    (without_parts (has_bit l.before) l.state (drop l.place l.parts)
    ≡ without_parts (has_bit l.before) l.initial.state l.parts)
    × (l.held.marks + 2 ^ l.place * marks_of (has_bit l.before) (drop l.place l.parts)
    ≡ marks_of (has_bit l.before) l.parts)
    × (l.held.cost + active_cost (has_bit l.before) (drop l.place l.parts)
    ≡ l.cost + active_cost (has_bit l.before) l.parts)
    × AreActing l.left (drop l.place l.parts)
