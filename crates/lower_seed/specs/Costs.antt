-- What is known of each state by the least cost of a choice.
--     costs_of a                 the costs of the action's choices, without those of guarded parts
--     if_any actions none some   `some` where there is an action, else `none`
--     least_choice g             the least cost of a choice; the penalty where there is no action
--     cost_value g s             0 at a goal, else the smaller of the penalty and that cost
use Rattle.std.specs.Prelude.{ℕ, min, cond, List, [], ◌∷◌, map}
use Rattle.ground_model.specs.declared.action.Choice.{Choice}
use Rattle.ground_model.specs.declared.action.GroundAction.{GroundAction}
use Rattle.ground_model.specs.Packed.{State}
use Rattle.ground_model.specs.Ground.{Ground}
use Rattle.ground_model.specs.Steps.{ground_process, least_choice_cost}

abbrev pub costs_of : GroundAction → List ℕ
costs_of a = map (λ (c : Choice). c.cost) a.choices

abbrev pub if_any : List GroundAction → ℕ → ℕ → ℕ
if_any [] none some = none
if_any (a ∷ more) none some = some

abbrev pub least_choice : Ground → ℕ
least_choice g = if_any g.actions g.penalty (least_choice_cost g)

abbrev pub cost_value : Ground → State → ℕ
cost_value g s = cond ((ground_process g).goal s) 0 (min g.penalty (least_choice g))
