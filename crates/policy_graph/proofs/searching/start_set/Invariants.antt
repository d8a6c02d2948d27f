use Rattle.std.proofs.Common.{◌≡◌, take}
use Rattle.ground_model.specs.Steps.{ground_starts}
use Rattle.policy_graph.specs.Search.{start_states}
use Rattle.policy_graph.proofs.searching.start_set.Given as goal

abbrev pub invariant-loop-place : goal.invariant-loop-place
invariant-loop-place l = l.states.keys ≡ take l.place (start_states (ground_starts l.problem))
