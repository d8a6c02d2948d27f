-- A graph has few nodes.
use Rattle.std.proofs.Common.{length, arith}
use Rattle.std.proofs.lemmas.List.{length-map}
use Rattle.policy_graph.specs.declared.node.Node.{Node}
use Rattle.plan_app.proofs.drawing.answer_of.Goals as goal

pub graph_text-requires : goal.graph_text-requires
graph_text-requires c =
    let few = c.in_ok-graph.ensures.drawn.few in
    let nodes = length-map c.in_ok-graph.graph.nodes (λ (node : Node). node.state) in
    let most = c.requires.states.1 in
    omega (arith, few, nodes, most)
