-- The laws of steps, as statements.
--     ChoicesCostWithin      no choice costs more than the greatest cost, whatever atoms are true
--     PlacesAreChoices       a choice at its place among those of an action is a choice of the problem
--     PackedHasLength        packed words are as many as they are asked for, so that each change of a
--                            state leaves its length
--     OutcomesAreOfChoices   the outcome at its place leads to the next state, and costs what the choice costs
use Rattle.std.specs.Prelude.{◌≡◌, ℕ, ◌≤◌, Bool, Some, length}
use Rattle.std.specs.List.{slice_get}
use Rattle.ground_model.specs.declared.action.Choice.{Choice}
use Rattle.ground_model.specs.declared.limits.TheConstants.{MOST_CHOICE_COST}
use Rattle.ground_model.specs.Packed.{State, has_bit, packed}
use Rattle.ground_model.specs.Choices.{cost_of, next_state}
use Rattle.ground_model.specs.Ground.{Ground}
use Rattle.ground_model.specs.Invariant.{IsChoice, IsGroundProblem}
use Rattle.ground_step.specs.Steps.{choices_of, next_at, cost_at}

abbrev pub ChoicesCostWithin : Type 0
ChoicesCostWithin = (n : ℕ) (c : Choice) → IsChoice n c
    → (bit : ℕ → Bool) → cost_of bit c ≤ MOST_CHOICE_COST

abbrev pub PlacesAreChoices : Type 0
PlacesAreChoices = (g : Ground) → IsGroundProblem g → (k i : ℕ) (c : Choice)
    → slice_get (choices_of g k) i ≡ Some c → IsChoice (length g.atoms) c

abbrev pub PackedHasLength : Type 0
PackedHasLength = (f : ℕ → Bool) (n : ℕ) → length (packed f n) ≡ n

abbrev pub OutcomesAreOfChoices : Type 0
OutcomesAreOfChoices = (g : Ground) (k i : ℕ) (c : Choice) (s : State)
    → slice_get (choices_of g k) i ≡ Some c
    → (next_at g k i s ≡ Some (next_state s c)) × (cost_at g k i s ≡ Some (cost_of (has_bit s) c))
