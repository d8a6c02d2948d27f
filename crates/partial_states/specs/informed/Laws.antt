-- The laws of the pair that layers and partial rows make, as statements.
--     InformedIsBalanced     where they pass their tests, it is a balanced pair
--     InformedEncloses       and the interval of a certificate over it encloses the cost, with its acts as the policy
use Rattle.std.specs.Prelude.{ℕ, List}
use Rattle.decision_process.specs.Enclosing.{Encloses}
use Rattle.decision_process.specs.Readings.{Certificate}
use Rattle.balanced_pair.specs.Pairs.{IsBalancedPair, act_over, IsCertificateOver}
use Rattle.ground_model.specs.Packed.{State, same_state}
use Rattle.ground_model.specs.Ground.{Ground}
use Rattle.ground_model.specs.Steps.{ground_process, ground_starts}
use Rattle.partial_states.specs.ground_rows.GroundRows.{GroundRow}
use Rattle.partial_states.specs.ground_layers.GroundLayers.{GroundLayer}
use Rattle.partial_states.specs.informed.Informed.{informed, IsInformed}

module _ (g : Ground) where
  abbrev pub InformedIsBalanced : Type 0
  InformedIsBalanced = (groups : List (List GroundLayer)) (rows : List GroundRow)
      → IsInformed g groups rows → IsBalancedPair (ground_process g) (informed g groups rows)

  abbrev pub InformedEncloses : Type 0
  InformedEncloses = (groups : List (List GroundLayer)) (rows : List GroundRow)
      → IsInformed g groups rows → (c : Certificate State ℕ)
      → IsCertificateOver (ground_process g) same_state (informed g groups rows)
      (ground_starts g) g.start_den c
      → Encloses (ground_process g) (ground_starts g) g.start_den c.lower c.upper
      (act_over (ground_process g) same_state (informed g groups rows) c.rows)
