-- The edges of one more node.
use Rattle.std.proofs.Common.{[], ◌∙◌, ap, sym, rules, length, ◌<◌}
use Rattle.std.specs.List.{slice_get}
use Rattle.policy_graph.specs.Graph.{kind_edges, node_edges, states_in}
use Rattle.policy_graph.proofs.Joining.{place_more, stands}
use Rattle.policy_graph.proofs.edges.edges_of.Goals as goal

pub loop-place-preserved : goal.loop-place-preserved
loop-place-preserved c =
    let g = c.args.problem.now in let nodes = c.args.nodes.now in let node = c.index-nodes-place.result in let i = c.loop-place.place in
    let within : i < length nodes = search rules in
    c.in_ok-push_node.ensures
    ∙ place_more (λ k. node_edges g (states_in nodes) k (slice_get nodes k)) [] c.loop-place.edges.items i
    (kind_edges g c.args.states.now.keys i node.state node.kind) c.loop-place.invariant
    (ap (λ l. kind_edges g l i node.state node.kind) c.requires.states
    ∙ ap (node_edges g (states_in nodes) i) (sym (stands nodes i node within c.index-nodes-place.is)))
