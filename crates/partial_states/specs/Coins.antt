-- Two coins, each flipped until it shows heads, at 1 a flip: layers and partial rows say the optimum of 4 with no row of a state.
-- Atoms 0 and 1 are the heads of the first and of the second coin. A layer for each coin says 2 at its tails. Three partial rows say 4 where
-- the first shows tails, whatever the second shows; 2 where the first shows heads; and 0 where both do.
use Rattle.std.specs.Prelude.{◌≡◌, ℕ, Bool, false, List, [], ◌∷◌, Some, None, codes, refl}
use denote.Hole.Carrier.{hidden}
use Rattle.decision_process.specs.Readings.{AtGoal, Takes}
use Rattle.ground_model.specs.declared.action.Choice.{Choice}
use Rattle.ground_model.specs.declared.action.GroundAction.{GroundAction}
use Rattle.ground_model.specs.declared.condition.GroundCondition.{GroundCondition}
use Rattle.ground_model.specs.declared.condition.GroundCondition.TheVariants.{True, Atom, All}
use Rattle.ground_model.specs.declared.condition.GroundCondition.TheBlock.{shape-the_row-GroundCondition-0}
use Rattle.ground_model.specs.declared.condition.GroundCondition.TheBlock.{hidden-the_row-GroundCondition-0, hidden-the_row-GroundCondition-1}
use Rattle.ground_model.specs.Packed.{State}
use Rattle.ground_model.specs.Ground.{Ground}
use Rattle.partial_states.specs.Known.{kleene}
use Rattle.partial_states.specs.ground_rows.GroundRows.{known_at, GroundRow}
use Rattle.partial_states.specs.ground_layers.GroundLayers.{GroundLayer}
use Rattle.partial_states.specs.informed.Informed.{informed}

abbrev pub side : List ℕ → Choice
side adds = record { weight = 1; cost = 1; adds = adds; deletes = []; guarded = [] }

abbrev pub flip : ℕ → GroundAction
flip coin = record {
  name = codes "(flip)";
  condition = True;
  choices = side (coin ∷ []) ∷ side [] ∷ [];
  den = 2;
}

abbrev pub both_heads : GroundCondition
both_heads = All (Atom 0 ∷ Atom 1 ∷ [])

abbrev pub tails : State
tails = 0 ∷ []

abbrev pub coins : Ground
coins = record {
  atoms = codes "(first)" ∷ codes "(second)" ∷ [];
  penalty = 10;
  starts = record { weight = 1; state = tails } ∷ [];
  start_den = 1;
  goal = both_heads;
  actions = flip 0 ∷ flip 1 ∷ [];
}

-- ---- layers

abbrev pub at_tails : List Bool → ℕ
at_tails (false ∷ []) = 2
at_tails _ = 0

abbrev pub coin_layer : ℕ → GroundLayer
coin_layer coin = record { own = coin ∷ []; others = []; penalty = 5; low = at_tails }

abbrev pub group : List GroundLayer
group = coin_layer 0 ∷ coin_layer 1 ∷ []

-- ---- partial rows

abbrev pub done : GroundRow
done = record { state = record { trues = 0 ∷ 1 ∷ []; falses = [] }; upper = 0; act = AtGoal }

abbrev pub then_second : GroundRow
then_second = record { state = record { trues = 0 ∷ []; falses = [] }; upper = 2; act = Takes 1 }

abbrev pub first_coin : GroundRow
first_coin = record { state = record { trues = []; falses = 0 ∷ [] }; upper = 4; act = Takes 0 }

abbrev pub rows : List GroundRow
rows = done ∷ then_second ∷ first_coin ∷ []

lower_is_the_optimum : (informed coins (group ∷ []) rows).low tails ≡ 4
lower_is_the_optimum = refl

upper_is_the_optimum : (informed coins (group ∷ []) rows).high tails ≡ 4
unfolding shape-the_row-GroundCondition-0 hidden-the_row-GroundCondition-0 hidden-the_row-GroundCondition-1 hidden
upper_is_the_optimum = refl

first_is_flipped : (informed coins (group ∷ []) rows).act tails ≡ Some 0
first_is_flipped = refl

-- what is known where the first shows heads, and where it shows tails
left_open : kleene (known_at (then_second.state)) both_heads ≡ None
unfolding shape-the_row-GroundCondition-0 hidden-the_row-GroundCondition-0 hidden-the_row-GroundCondition-1 hidden
left_open = refl

known_not_to_hold : kleene (known_at (first_coin.state)) both_heads ≡ Some false
unfolding shape-the_row-GroundCondition-0 hidden-the_row-GroundCondition-0 hidden-the_row-GroundCondition-1 hidden
known_not_to_hold = refl
