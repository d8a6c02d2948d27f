-- What a certificate says of states, found by them.
--     Told                         a ground problem and a certificate that is balanced for it
--     told_by g c                  these two
--     HasRowStates g c states codes
--                                  these are the states of its rows, in order, and the codes of its acts
--     claim_of row                 bounds on the value of a row's state, and what is done there
--     claim_in g c s               those of the state's row, if it has one
--     told_in g c s                those of a state but for goals: 0 and the penalty with giving up where it has none
--     action_at g c s              the action that is taken in a state; None at a goal, and where the policy gives up
use Rattle.std.specs.Prelude.{◌≡◌, ℕ, cond, Option, None, List, map, option_map}
use Rattle.std.specs.Option.{unwrap_or}
use Rattle.decision_process.specs.Readings as readings
use Rattle.decision_process.specs.Readings.{action_of, row_at}
use Rattle.certificate.specs.Content.{Content}
use Rattle.certificate_check.specs.Claims.{act_codes, row_state, rows_of, IsBalancedFor}
use Rattle.ground_model.specs.Packed.{State, same_state}
use Rattle.ground_model.specs.Ground.{Ground}
use Rattle.ground_model.specs.Steps.{ground_process}
use Rattle.policy_graph.specs.declared.claims.Claim.{Claim}

pub record Told : Type 0 where
  pub problem : Ground
  pub certificate : Content

abbrev pub told_by : Ground → Content → Told
told_by g c = record { problem = g; certificate = c }

pub record HasRowStates (g : Ground) (c : Content) (states : List State) (codes : List (Option ℕ)) : Type 0 where
  pub balanced : IsBalancedFor g c
  pub states_are : states ≡ map (row_state g c) c.rows
  pub codes_are : codes ≡ act_codes g c

abbrev pub claim_of : readings.Row State ℕ → Claim
claim_of row = record { lower = row.lower; upper = row.upper; act = action_of row.act }

abbrev pub untold_claim : ℕ → Claim
untold_claim penalty = record { lower = 0; upper = penalty; act = None }

module _ (g : Ground) (c : Content) where
  abbrev pub claim_in : State → Option Claim
  claim_in s = option_map claim_of (row_at same_state (rows_of g c c.rows) s)

  abbrev pub told_in : State → Claim
  told_in s = unwrap_or (claim_in s) (untold_claim g.penalty)

  abbrev pub action_at : State → Option ℕ
  action_at s = cond ((ground_process g).goal s) None (told_in s).act
