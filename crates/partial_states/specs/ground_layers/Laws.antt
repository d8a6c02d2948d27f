-- The laws of layers of a ground problem, as statements.
--     LayerRowsPass               a layer passes its test if each of its rows does
--     GroundLayersAreSubSolution  the greatest sum of groups, each of which passes its test, is a sub-solution of the Bellman equation
use Rattle.std.specs.Prelude.{ℕ, List, Contains}
use Rattle.balanced_pair.specs.Pairs.{IsSubSolution}
use Rattle.ground_model.specs.Ground.{Ground}
use Rattle.ground_model.specs.Steps.{ground_process}
use Rattle.partial_states.specs.ground_layers.GroundLayers.{GroundLayer, IsGroundLayer, IsGroundGroup, lower_of}
use Rattle.partial_states.specs.ground_layers.LayerRows.{LayerRow, with_rows, IsLayerRow}

module _ (g : Ground) where
  abbrev pub LayerRowsPass : Type 0
  LayerRowsPass = (group : List GroundLayer) (own others : List ℕ) (penalty : ℕ)
      → (rows : List LayerRow)
      → ((row : LayerRow) → Contains rows row
      → IsLayerRow g group (with_rows own others penalty rows) row)
      → IsGroundLayer g group (with_rows own others penalty rows)

  abbrev pub GroundLayersAreSubSolution : Type 0
  GroundLayersAreSubSolution = (groups : List (List GroundLayer))
      → ((group : List GroundLayer) → Contains groups group → IsGroundGroup g group)
      → IsSubSolution (ground_process g) (lower_of g groups)
