use Rattle.std.proofs.Common.{◌≡◌, drop}
use Rattle.std.specs.List.{list_any, list_all}
use Rattle.ground_model.specs.Packed.{has_bit}
use Rattle.ground_model.specs.Truth.{truth}
use Rattle.ground_step.proofs.conditions.+holds.Given as goal

abbrev pub decreases-holds : goal.decreases-holds
decreases-holds l = goal.size-holds l

abbrev pub invariant-loop-part : goal.invariant-loop-part
invariant-loop-part l =
    list_all (truth (has_bit l.state)) (drop l.part-index l.part-items) ≡ truth (has_bit l.state) l.condition

abbrev pub invariant-loop-other : goal.invariant-loop-other
invariant-loop-other l =
    list_any (truth (has_bit l.state)) (drop l.other-index l.other-items) ≡ truth (has_bit l.state) l.condition
