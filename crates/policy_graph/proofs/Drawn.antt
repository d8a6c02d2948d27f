-- The nodes of the states that were found, and their edges, are the graph.
use Rattle.std.proofs.Common.{◌≡◌, ℕ, List, [], ◌∷◌, length, map, refl, sym, ap, subst, ◌∙◌}
use Rattle.certificate.specs.Content.{Content}
use Rattle.certificate_check.specs.Laws.{act_in}
use Rattle.ground_model.specs.Packed.{State}
use Rattle.ground_model.specs.Ground.{Ground}
use Rattle.ground_model.specs.Steps.{ground_process, ground_starts}
use Rattle.policy_graph.specs.declared.edge.Edge.{Edge}
use Rattle.policy_graph.specs.declared.node.Node.{Node}
use Rattle.policy_graph.specs.Graph.{node_of, states_in, edges_of, IsDrawn, IsGraphOf}
use Rattle.policy_graph.specs.Search.{IsSearched}
use Rattle.policy_graph.proofs.BreadthFirst.{all_drawn}

module _ (g : Ground) (c : Content) where
  states_back : (states : List State) → states_in (map (node_of g c) states) ≡ states
  states_back [] = refl
  states_back (s ∷ states) = ap (λ l. s ∷ l) (states_back states)

  pub states_are : (nodes : List Node) (states : List State) → nodes ≡ map (node_of g c) states → states ≡ states_in nodes
  states_are nodes states is = sym (ap states_in is ∙ states_back states)

  pub graph_is : (most : ℕ) (states : List State) (nodes : List Node) (edges : List Edge)
      → IsSearched (ground_process g) (act_in g c) (ground_starts g) most states (length states)
      → nodes ≡ map (node_of g c) states → edges ≡ edges_of g nodes
      → IsGraphOf g c most (record { nodes = nodes; edges = edges })
  graph_is most states nodes edges found is is' = record {
    drawn = subst (IsDrawn (ground_process g) (act_in g c) (ground_starts g) most) (states_are nodes states is)
        (all_drawn (ground_process g) (act_in g c) (ground_starts g) most states found);
    nodes = is ∙ ap (map (node_of g c)) (states_are nodes states is);
    edges = is';
  }
