use Rattle.std.proofs.Common.{◌≡◌, map, take}
use Rattle.policy_graph.specs.Graph.{node_of}
use Rattle.policy_graph.proofs.nodes.nodes_of.Given as goal

abbrev pub invariant-loop-state : goal.invariant-loop-state
invariant-loop-state l = l.nodes.items ≡ map (node_of l.claims.problem l.claims.certificate) (take l.state-index l.states)
