-- The condition holds where each of its parts does.
use Rattle.std.proofs.Common.{◌≡◌, ℕ, Bool}
use Rattle.std.specs.List.{list_all}
use Rattle.ground_model.specs.Truth.{truth}
use Rattle.ground_step.proofs.prepared_choice.+is_never.Given as goal

abbrev pub decreases-is_never : goal.decreases-is_never
decreases-is_never l = goal.size-is_never l

abbrev pub invariant-loop-part : goal.invariant-loop-part
invariant-loop-part l = (bit : ℕ → Bool) → list_all (truth bit) l.part-items ≡ truth bit l.condition
