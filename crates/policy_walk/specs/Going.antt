-- What one draw does, where something is drawn.
--     StartsBy g r s             the draw r gives a start whose state is s
--     GoesBy g k r s t cost      it gives a choice of the action with code k, which leads from s to t at this cost
use Rattle.std.specs.Prelude.{◌≡◌, ℕ, Some}
use Rattle.ground_model.specs.declared.action.Choice.{Choice}
use Rattle.ground_model.specs.declared.start.Start.{Start}
use Rattle.ground_model.specs.Packed.{State, has_bit}
use Rattle.ground_model.specs.Choices.{cost_of, next_state}
use Rattle.ground_model.specs.Ground.{Ground}
use Rattle.policy_walk.specs.Walks.{start_drawn, choice_drawn}

module _ (g : Ground) where
  pub record StartsBy (r : ℕ) (s : State) : Type 0 where
    pub start : Start
    pub is_drawn : start_drawn g r ≡ Some start
    pub state : s ≡ start.state

  pub record GoesBy (k r : ℕ) (s t : State) (cost : ℕ) : Type 0 where
    pub choice : Choice
    pub is_drawn : choice_drawn g k r ≡ Some choice
    pub next : t ≡ next_state s choice
    pub cost_is : cost ≡ cost_of (has_bit s) choice
