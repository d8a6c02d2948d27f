-- The graph of the policy of a certificate: states that it reaches, and what it does in them.
--     kind_of goal act         whether a state is a goal; else what the act does there
--     node_of g c s            what a certificate says of a state
--     states_in nodes          the states of nodes
--     place_in states s        the first place of a state, None exactly where it stands at none
--     edge_of states from code den s choice
--                              a choice of an action as an edge: its chance, its cost in s, and the
--                              place of its next state, if that stands among the states
--     node_edges g states from node
--                              those of the node in a place: the choices of its action, each of positive weight
--     edges_of g nodes         those of all nodes, in their order
-- Of states in some order, over any process:
--     IsBreadthFirst p policy starts states
--                              none is reached in more steps than a state that does not stand before it
--     HasStartsFirst p policy starts most states
--                              start i stands in place i, for each i below the bound
--     IsDrawn p policy starts most states
--                              the policy reaches them; they are distinct, at most so many, and all that it
--                              reaches where they are fewer; the starts stand first, and they are breadth first
-- Of a graph:
--     IsGraphOf g c most graph its nodes are such states with what the certificate says of them, and its
--                              edges are theirs
use Rattle.std.specs.Prelude.{◌≡◌, ◌≢◌, ℕ, ◌<◌, ◌≤◌, Bool, true, false, Option, Some, None}
use Rattle.std.specs.Prelude.{AllPairs, Contains, List, [], map, length, take, position}
use Rattle.std.specs.List.{flat_map, range_with_len, slice_get}
use Rattle.decision_process.specs.Process.{Process, Start}
use Rattle.certificate.specs.Content.{Content}
use Rattle.certificate_check.specs.Claims.{low_in, high_in}
use Rattle.certificate_check.specs.Laws.{act_in}
use Rattle.ground_model.specs.declared.action.Choice.{Choice}
use Rattle.ground_model.specs.declared.action.GroundAction.{GroundAction}
use Rattle.ground_model.specs.Packed.{State, has_bit, same_state}
use Rattle.ground_model.specs.Choices.{cost_of, next_state}
use Rattle.ground_model.specs.Ground.{Ground}
use Rattle.ground_model.specs.Steps.{ground_process, ground_starts}
use Rattle.policy_graph.specs.declared.edge.Edge.{Edge}
use Rattle.policy_graph.specs.declared.graph.PolicyGraph.{PolicyGraph}
use Rattle.policy_graph.specs.declared.node.Node.{Node}
use Rattle.policy_graph.specs.declared.node_kind.NodeKind.{NodeKind}
use Rattle.policy_graph.specs.declared.node_kind.NodeKind.TheVariants.{Goal, GivesUp, Acts}
use Rattle.policy_graph.specs.Reached.{IsReached, IsNoFarther}

-- ---- nodes

abbrev pub kind_of : Bool → Option ℕ → NodeKind
kind_of true act = Goal
kind_of false None = GivesUp
kind_of false (Some k) = Acts k

abbrev pub node_of : Ground → Content → State → Node
node_of g c s = record {
  state = s;
  lower = low_in g c s;
  upper = high_in g c s;
  kind = kind_of ((ground_process g).goal s) (act_in g c s);
}

abbrev pub states_in : List Node → List State
states_in nodes = map (λ (node : Node). node.state) nodes

-- ---- edges

abbrev pub place_in : List State → State → Option ℕ
place_in states s = position (same_state s) states

abbrev pub edge_of : List State → ℕ → ℕ → ℕ → State → Choice → Edge
edge_of states from code den s choice = record {
  from = from;
  to = place_in states (next_state s choice);
  action = code;
  weight = choice.weight;
  den = den;
  cost = cost_of (has_bit s) choice;
}

module _ (g : Ground) (states : List State) (from : ℕ) where
  abbrev pub action_edges : ℕ → State → Option GroundAction → List Edge
  action_edges code s None = []
  action_edges code s (Some a) = map (edge_of states from code a.den s) a.choices

  abbrev pub kind_edges : State → NodeKind → List Edge
  kind_edges s Goal = []
  kind_edges s GivesUp = []
  kind_edges s (Acts k) = action_edges k s (slice_get g.actions k)

  abbrev pub node_edges : Option Node → List Edge
  node_edges None = []
  node_edges (Some node) = kind_edges node.state node.kind

abbrev pub edges_of : Ground → List Node → List Edge
edges_of g nodes =
    flat_map (λ i. node_edges g (states_in nodes) i (slice_get nodes i)) (range_with_len 0 (length nodes))

-- ---- the states that are drawn

module _ {S A : Type 0} (p : Process S A) (policy : S → Option A) (starts : List (Start S)) where
  abbrev pub IsBreadthFirst : List S → Type 0
  IsBreadthFirst states = (i : ℕ) (s t : S) → slice_get states i ≡ Some s
      → (Contains (take i states) t → ⊥) → IsNoFarther p policy starts s t

  abbrev pub HasStartsFirst : ℕ → List S → Type 0
  HasStartsFirst most states = (i : ℕ) (start : Start S) → i < most → slice_get starts i ≡ Some start
      → slice_get states i ≡ Some start.state

  pub record IsDrawn (most : ℕ) (states : List S) : Type 0 where
    pub distinct : AllPairs (λ s t. s ≢ t) states
    pub few : length states ≤ most
    pub reached : (s : S) → Contains states s → IsReached p policy starts s
    pub all : length states < most → (s : S) → IsReached p policy starts s → Contains states s
    pub starts_first : HasStartsFirst most states
    pub breadth_first : IsBreadthFirst states

pub record IsGraphOf (g : Ground) (c : Content) (most : ℕ) (graph : PolicyGraph) : Type 0 where
  pub drawn : IsDrawn (ground_process g) (act_in g c) (ground_starts g) most (states_in graph.nodes)
  pub nodes : graph.nodes ≡ map (node_of g c) (states_in graph.nodes)
  pub edges : graph.edges ≡ edges_of g graph.nodes
