-- The prices were lowered by the choice's own adds and by the parts so far.
use Rattle.std.proofs.Common.{◌≤◌, ◌+◌, ℕ, take}
use Rattle.std.specs.Prelude.{All}
use Rattle.ground_model.specs.declared.action.Guarded.{Guarded}
use Rattle.relaxed_seed.specs.Potential.{AllowsGuarded}
use Rattle.relaxed_seed.specs.Lowering.{IsLowered}
use Rattle.relaxed_seed.proofs.Lowered.{AllowEach}
use Rattle.relaxed_seed.proofs.lowering.lower_by_choice.Given as goal

abbrev pub invariant-loop-part : goal.invariant-loop-part
invariant-loop-part l =
    IsLowered l.penalty
    (λ r. All (λ q. r q ≤ l.choice.cost + l.base) l.choice.adds
    × AllowEach l.penalty (λ (x : Guarded) (p : ℕ → ℕ). AllowsGuarded l.penalty l.base l.choice.cost p x) (take l.part-index l.part-items) r)
    l.fn.prices l.prices l.fell
