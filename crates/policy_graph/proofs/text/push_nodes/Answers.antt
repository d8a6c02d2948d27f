-- The line of one more node.
use Rattle.std.proofs.Common.{◌<◌, ◌∙◌, ap, sym, rules, length}
use Rattle.std.specs.Prelude.{Some, None, Option, []}
use Rattle.policy_graph.specs.declared.node.Node.{Node}
use Rattle.policy_graph.specs.Text.{node_line, node_text}
use Rattle.policy_graph.proofs.Joining.{place_more, stands}
use Rattle.policy_graph.proofs.text.push_nodes.Goals as goal

pub loop-place-preserved : goal.loop-place-preserved
loop-place-preserved c =
    let g = c.args.problem.now in let nodes = c.args.nodes.now in let node = c.index-nodes-place.result in let i = c.loop-place.place in
    let within : i < length nodes = search rules in
    c.in_ok-push_node.ensures
    ∙ place_more (node_line g nodes) c.args.out.now.items c.loop-place.out.items i (node_text g i node) c.loop-place.invariant
    (sym (ap (λ (o : Option Node). elim o [ Some x ↦ node_text g i x | None ↦ [] ]) (stands nodes i node within c.index-nodes-place.is)))
