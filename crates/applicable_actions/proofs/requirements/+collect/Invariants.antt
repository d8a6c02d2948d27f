use Rattle.std.proofs.Common.{take}
use Rattle.std.specs.List.{list_all}
use Rattle.ground_model.specs.Packed.{has_bit}
use Rattle.ground_model.specs.Truth.{truth}
use Rattle.applicable_actions.specs.Masks.{Adds}
use Rattle.applicable_actions.proofs.requirements.+collect.Given as goal

abbrev pub decreases-collect : goal.decreases-collect
decreases-collect l = goal.size-collect l

abbrev pub invariant-loop-part : goal.invariant-loop-part
invariant-loop-part l =
    Adds (l.initial.tests.items, l.initial.atoms.items) (l.tests.items, l.atoms.items)
    (λ s. list_all (truth (has_bit s)) (take l.part-index l.part-items)) l.is_whole
