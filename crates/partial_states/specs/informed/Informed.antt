-- The pair of a ground problem that groups of layers and partial rows make.
--     informed g groups rows  the greatest sum of a group; the least value of a partial row, with its act
--     IsInformed g groups rows
--                             each group and each partial row passes its test
use Rattle.std.specs.Prelude.{ℕ, List, Contains}
use Rattle.balanced_pair.specs.Pairs.{Pair}
use Rattle.balanced_pair.specs.partial_rows.PartialRows.{partial_high, partial_act}
use Rattle.ground_model.specs.Packed.{State}
use Rattle.ground_model.specs.Ground.{Ground}
use Rattle.ground_model.specs.Steps.{ground_process}
use Rattle.partial_states.specs.ground_rows.GroundRows.{GroundRow, rows_of, IsGroundRow}
use Rattle.partial_states.specs.ground_layers.GroundLayers.{GroundLayer, IsGroundGroup, lower_of}

module _ (g : Ground) (groups : List (List GroundLayer)) (rows : List GroundRow) where
  abbrev pub informed : Pair State ℕ
  informed = record {
    low = lower_of g groups;
    high = partial_high (ground_process g) (rows_of g rows);
    act = partial_act (ground_process g) (rows_of g rows);
  }

  pub record IsInformed : Type 0 where
    pub layers : (group : List GroundLayer) → Contains groups group → IsGroundGroup g group
    pub partial_rows : (row : GroundRow) → Contains rows row → IsGroundRow g rows row
