-- The prices were lowered by the actions so far.
use Rattle.std.proofs.Common.{ℕ, take}
use Rattle.ground_model.specs.declared.action.GroundAction.{GroundAction}
use Rattle.relaxed_seed.specs.Potential.{AllowsAction}
use Rattle.relaxed_seed.specs.Lowering.{IsLowered}
use Rattle.relaxed_seed.proofs.Lowered.{AllowEach}
use Rattle.relaxed_seed.proofs.lowering.lower_by_actions.Given as goal

abbrev pub invariant-loop-action : goal.invariant-loop-action
invariant-loop-action l =
    IsLowered l.penalty
    (AllowEach l.penalty (λ (a : GroundAction) (r : ℕ → ℕ). AllowsAction l.penalty r a) (take l.action-index l.actions))
    l.fn.prices l.prices l.fell
