-- The states that were found are those of the nodes.
use Rattle.std.proofs.Common.{◌∙◌, length, map, sym, ap, subst}
use Rattle.certificate_check.specs.Laws.{act_in}
use Rattle.ground_model.specs.Steps.{ground_process, ground_starts}
use Rattle.policy_graph.specs.Claims.{Told}
use Rattle.policy_graph.specs.Graph.{node_of, states_in, edges_of}
use Rattle.policy_graph.specs.Search.{IsSearched}
use Rattle.policy_graph.proofs.Drawn.{states_are, graph_is}
use Rattle.policy_graph.proofs.drawing.policy_graph.Goals as goal

pub edges_of-requires-clause-states : goal.edges_of-requires-clause-states
edges_of-requires-clause-states c =
    let g = c.args.problem.now in let q = c.args.certificate.now in let keys = c.in_ok-found.found.keys in
    let nodes = c.in_ok-nodes.ensures
    ∙ (λ j. map (node_of (c.in_ok-claims.ensures j).problem (c.in_ok-claims.ensures j).certificate) (c.as_slice-reached.ensures.keys j)) in
    states_are g q c.in_ok-nodes.nodes keys nodes ∙ ap states_in (sym c.as_slice-drawn.ensures)

pub returns : goal.returns
returns c =
    let g = c.args.problem.now in let q = c.args.certificate.now in let keys = c.in_ok-found.found.keys in
    let found = subst (λ (x : Told). IsSearched (ground_process x.problem) (act_in x.problem x.certificate) (ground_starts x.problem)
    c.args.states keys (length keys)) c.in_ok-claims.ensures c.in_ok-found.ensures in
    let nodes = c.in_ok-nodes.ensures
    ∙ (λ j. map (node_of (c.in_ok-claims.ensures j).problem (c.in_ok-claims.ensures j).certificate) (c.as_slice-reached.ensures.keys j)) in
    graph_is g q c.args.states keys c.in_ok-nodes.nodes c.in_ok-edges.edges found nodes
    (c.in_ok-edges.ensures ∙ ap (edges_of g) c.as_slice-drawn.ensures)
