use Rattle.std.proofs.Common.{◌≡◌, drop}
use Rattle.std.specs.List.{list_all}
use Rattle.ground_model.specs.Packed.{has_bit}
use Rattle.ground_model.specs.Truth.{truth}
use Rattle.ground_step.proofs.conditions.guard_holds.Given as goal

abbrev pub invariant-loop-part : goal.invariant-loop-part
invariant-loop-part l =
    list_all (truth (has_bit l.state)) (drop l.part-index l.part-items) ≡ truth (has_bit l.state) l.guard
