-- The law of graphs, by its lemma.
use Rattle.policy_graph.proofs.Whole.{all_are_drawn}
use Rattle.policy_graph.proofs.laws.graph_laws.Goals as goal

pub returns : goal.returns
returns c = all_are_drawn
