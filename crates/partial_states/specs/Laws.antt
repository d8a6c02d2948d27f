-- The laws of partial states, as statements. Where each atom's truth is what is known of it:
--     KnownHolds             a condition's truth is what is known of the condition
--     NextIsAdmitted         after a choice each atom's truth is what is known after it with the parts that hold
--     HeldIsPicked           the parts that hold are among the picks
--     HeldIsDecided          where of each part it is known whether it holds, the parts that hold are those
-- And of each state:
--     CostIsPicked           the cost of a choice is its own and that of the parts that hold
use Rattle.std.specs.Prelude.{◌≡◌, ℕ, ◌+◌, Bool, Option, List, Contains}
use Rattle.ground_model.specs.declared.action.Guarded.{Guarded}
use Rattle.ground_model.specs.declared.action.Choice.{Choice}
use Rattle.ground_model.specs.declared.condition.GroundCondition.{GroundCondition}
use Rattle.ground_model.specs.Truth.{truth}
use Rattle.ground_model.specs.Choices.{after, cost_of}
use Rattle.partial_states.specs.Known.{kleene, Admits, AdmitsEach}
use Rattle.partial_states.specs.Steps.{picked_cost, step_known, held, picks, Decides}

abbrev pub KnownHolds : Type 0
KnownHolds = (bit : ℕ → Bool) (known : ℕ → Option Bool) → AdmitsEach known bit
    → (c : GroundCondition) → Admits (kleene known c) (truth bit c)

abbrev pub NextIsAdmitted : Type 0
NextIsAdmitted = (bit : ℕ → Bool) (known : ℕ → Option Bool) → AdmitsEach known bit
    → (c : Choice) → AdmitsEach (step_known known c (held bit c.guarded)) (after bit c)

abbrev pub HeldIsPicked : Type 0
HeldIsPicked = (bit : ℕ → Bool) (known : ℕ → Option Bool) → AdmitsEach known bit
    → (parts : List Guarded) → Contains (picks known parts) (held bit parts)

abbrev pub HeldIsDecided : Type 0
HeldIsDecided = (bit : ℕ → Bool) (known : ℕ → Option Bool) → AdmitsEach known bit
    → (parts : List Guarded) (picked : List Bool) → Decides known parts picked
    → held bit parts ≡ picked

abbrev pub CostIsPicked : Type 0
CostIsPicked = (bit : ℕ → Bool) (c : Choice)
    → cost_of bit c ≡ c.cost + picked_cost (held bit c.guarded) c.guarded
