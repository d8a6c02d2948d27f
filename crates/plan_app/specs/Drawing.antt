-- What is said of the graph of a certificate's policy.
--     IsDrawAnswer g c most a     what is written and put of a graph of at most so many states: its text in the DOT language stands
--                                 where that of a certificate does
-- Source: the DOT language of Graphviz (Gansner and North 2000).
use Rattle.std.specs.Prelude.{◌≡◌, ℕ, true}
use Rattle.certificate.specs.Content.{Content}
use Rattle.ground_model.specs.Ground.{Ground}
use Rattle.plan_search.specs.declared.answer.Answer.{Answer}
use Rattle.policy_graph.specs.declared.graph.PolicyGraph.{PolicyGraph}
use Rattle.policy_graph.specs.Graph.{IsGraphOf}
use Rattle.policy_graph.specs.Text.{graph_report, graph_text}

pub record IsDrawAnswer (g : Ground) (c : Content) (most : ℕ) (a : Answer) : Type 0 where
  pub graph : PolicyGraph
  pub is_graph : IsGraphOf g c most graph
  pub text : a.certificate ≡ graph_text g graph
  pub report : a.report ≡ graph_report g graph
  pub converged : a.converged ≡ true
