-- The policy of a certificate over a ground problem.
--     Policy                 what to do in each state: an action by its code, or giving up (None)
--     Table                  states with their acts, of which the first of a state counts
--     policy_by t            the policy of such a table: giving up in each state that it does not have
--     act_in g c s           the act that the certificate has for the state s: that of its row; giving up without a row
use Rattle.std.specs.Prelude.{ℕ, List, Option, Some, None}
use Rattle.std.specs.Map.{lookup}
use Rattle.certificate.specs.Content.{Content}
use Rattle.decision_process.specs.Readings.{act}
use Rattle.ground_model.specs.Packed.{State, same_state}
use Rattle.ground_model.specs.Ground.{Ground}
use Rattle.certificate_check.specs.Claims.{rows_of}

abbrev pub Policy : Type 0
Policy = State → Option ℕ

abbrev pub Table : Type 0
Table = List (State × Option ℕ)

abbrev pub told : Option (Option ℕ) → Option ℕ
told None = None
told (Some act) = act

abbrev pub policy_by : Table → Policy
policy_by t s = told (lookup (same_state s) t)

abbrev pub act_in : Ground → Content → Policy
act_in g c s = act same_state (rows_of g c c.rows) s
