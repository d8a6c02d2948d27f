-- The choices of actions, side by side.
--     choices_of_action a        the choices of an action
--     IsWithin choices s         the span is one of these choices
--     choices_in choices s       what the span has of them
--     HavePlaced actions spans choices
--                                the spans are those of the actions, in their order
--     HasPlaced a s old new      the span has the choices of the action in new: the old ones, with no more than its own behind them
use Rattle.std.specs.Prelude.{◌≡◌, ◌+◌, ◌≤◌, List, ◌++◌, length, map, take, drop, All}
use Rattle.ground_model.specs.declared.action.Choice.{Choice}
use Rattle.ground_model.specs.declared.action.GroundAction.{GroundAction}
use Rattle.applicable_actions.specs.declared.distinct.span.Span.{Span}

abbrev pub choices_of_action : GroundAction → List Choice
choices_of_action a = a.choices

abbrev pub IsWithin : List Choice → Span → Type 0
IsWithin choices s = s.first + s.count ≤ length choices

abbrev pub choices_in : List Choice → Span → List Choice
choices_in choices s = take s.count (drop s.first choices)

pub record HavePlaced (actions : List GroundAction) (spans : List Span) (choices : List Choice) : Type 0 where
  pub within : All (IsWithin choices) spans
  pub are : map (choices_in choices) spans ≡ map choices_of_action actions

pub record HasPlaced (a : GroundAction) (s : Span) (old new : List Choice) : Type 0 where
  pub more : List Choice
  pub grown : new ≡ old ++ more
  pub few : length more ≤ length a.choices
  pub within : IsWithin new s
  pub are : choices_in new s ≡ choices_of_action a
