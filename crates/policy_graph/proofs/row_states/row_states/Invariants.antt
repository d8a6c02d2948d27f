use Rattle.std.proofs.Common.{◌≡◌, map, take}
use Rattle.certificate_check.specs.Claims.{row_state}
use Rattle.policy_graph.proofs.row_states.row_states.Given as goal

abbrev pub invariant-loop-place : goal.invariant-loop-place
invariant-loop-place l = l.states.keys ≡ take l.place (map (row_state l.problem l.certificate) l.certificate.rows)
