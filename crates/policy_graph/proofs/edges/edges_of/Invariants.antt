use Rattle.std.proofs.Common.{◌≡◌}
use Rattle.std.specs.List.{flat_map, range_with_len, slice_get}
use Rattle.policy_graph.specs.Graph.{node_edges, states_in}
use Rattle.policy_graph.proofs.edges.edges_of.Given as goal

abbrev pub invariant-loop-place : goal.invariant-loop-place
invariant-loop-place l =
    l.edges.items ≡ flat_map (λ i. node_edges l.problem (states_in l.nodes) i (slice_get l.nodes i)) (range_with_len 0 l.place)
