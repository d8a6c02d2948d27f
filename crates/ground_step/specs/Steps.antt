-- The outcomes of an action by their places.
--     choices_of g k         the choices of the action with code k; none where there is no such action
--     outcome_at g k i s     outcome i of action k in s, by the process of the problem
--     next_at, cost_at       the state that it leads to, and what it costs
use Rattle.std.specs.Prelude.{ℕ, Option, Some, None, option_map, List, []}
use Rattle.std.specs.List.{slice_get}
use Rattle.decision_process.specs.Process.{Outcome}
use Rattle.ground_model.specs.declared.action.Choice.{Choice}
use Rattle.ground_model.specs.declared.action.GroundAction.{GroundAction}
use Rattle.ground_model.specs.Packed.{State}
use Rattle.ground_model.specs.Ground.{Ground}
use Rattle.ground_model.specs.Steps.{ground_process}

abbrev pub choices_at : Option GroundAction → List Choice
choices_at None = []
choices_at (Some a) = a.choices

module _ (g : Ground) where
  abbrev pub choices_of : ℕ → List Choice
  choices_of k = choices_at (slice_get g.actions k)

  abbrev pub outcome_at : ℕ → ℕ → State → Option (Outcome State)
  outcome_at k i s = slice_get ((ground_process g).step k s) i

  abbrev pub next_at : ℕ → ℕ → State → Option State
  next_at k i s = option_map (λ (o : Outcome State). o.next) (outcome_at k i s)

  abbrev pub cost_at : ℕ → ℕ → State → Option ℕ
  cost_at k i s = option_map (λ (o : Outcome State). o.cost) (outcome_at k i s)
