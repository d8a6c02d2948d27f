use Rattle.std.proofs.Common.{◌≡◌, ◌++◌, length, map, take}
use Rattle.policy_graph.specs.Graph.{edge_of}
use Rattle.policy_graph.proofs.edges.push_choices.Given as goal

abbrev pub invariant-loop-choice : goal.invariant-loop-choice
invariant-loop-choice l = record {
  same : l.choice-items ≡ l.action.choices;
  long : length l.next ≡ length l.state;
  edges : l.edges.items
      ≡ l.initial.edges.items ++ map (edge_of l.states.keys l.from l.code l.action.den l.state) (take l.choice-index l.choice-items);
}
