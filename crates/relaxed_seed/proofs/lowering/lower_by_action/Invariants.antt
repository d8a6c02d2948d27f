-- The prices were lowered by the choices so far.
use Rattle.std.proofs.Common.{ℕ, take}
use Rattle.ground_model.specs.declared.action.Choice.{Choice}
use Rattle.relaxed_seed.specs.Potential.{AllowsChoice}
use Rattle.relaxed_seed.specs.Lowering.{IsLowered}
use Rattle.relaxed_seed.proofs.Lowered.{AllowEach}
use Rattle.relaxed_seed.proofs.lowering.lower_by_action.Given as goal

abbrev pub invariant-loop-choice : goal.invariant-loop-choice
invariant-loop-choice l =
    IsLowered l.penalty
    (AllowEach l.penalty (λ (c : Choice) (r : ℕ → ℕ). AllowsChoice l.penalty l.base r c) (take l.choice-index l.choice-items))
    l.fn.prices l.prices l.fell
