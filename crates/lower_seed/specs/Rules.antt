-- Rules that bound the costs of a problem from below.
--     BoundsFromBelow takes answers g rule
--                                the rule may be asked about each state of the problem's length, and each of its answers is known from
--                                below of the state
use Rattle.std.specs.Prelude.{◌≡◌, ℕ, length}
use Rattle.decision_process.specs.under.Under.{IsUnder}
use Rattle.ground_model.specs.Packed.{State}
use Rattle.ground_model.specs.Ground.{Ground}
use Rattle.ground_model.specs.Steps.{ground_process}
use Rattle.bound_core.specs.Core.{width}

module _ {R : Type 0} (takes : R → State → Type 0) (answers : R → State → ℕ → Type 0) where
  pub record BoundsFromBelow (g : Ground) (rule : R) : Type 0 where
    pub asked : (s : State) → length s ≡ width g → takes rule s
    pub under : (s : State) (value : ℕ) → length s ≡ width g → answers rule s value
        → IsUnder (ground_process g) value s
