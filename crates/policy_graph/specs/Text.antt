-- A graph as a text in the DOT language (Graphviz).
--     escaped text             a text within quotation marks: those in it, and backslashes, behind a backslash
--     atom_line atoms s q      the text of atom q and the end of its line, where the atom is true in s
--     kind_style kind          how a node is drawn: a goal with two lines around it, giving up with a dashed one
--     node_line g nodes i      the node in place i: its true atoms and its interval in units
--     target_text to           the name of a node; `more` stands for states that are not drawn
--     start_line g nodes i     an arrow to the node of start i with its chance
--     edge_label g e           the action of an edge, its chance and its cost in units
--     edge_line g e            an edge with these
--     is_cut g graph           a start is not drawn, or an edge leads to a state that is not
--     more_line g graph        the node `more`, where an arrow leads to it
--     graph_text g graph       the graph
--     graph_report g graph     how many nodes and edges it has, and whether it is cut
-- Source: the DOT language of Graphviz (Gansner and North 2000).
use Rattle.std.specs.Prelude.{ℕ, nat_eq, nat_lt, Bool, cond, not, ◌||◌, Option, Some, None, is_some}
use Rattle.std.specs.Prelude.{List, [], ◌∷◌, ◌++◌, length, codes, decimal}
use Rattle.std.specs.List.{flat_map, list_any, range_with_len, slice_get}
use Rattle.ground_model.specs.declared.start.Start.{Start}
use Rattle.ground_model.specs.Ground.{Ground}
use Rattle.ground_model.specs.Packed.{State, has_bit}
use Rattle.plan_report.specs.Reports.{fraction_text}
use Rattle.plan_report.specs.Solved.{action_text}
use Rattle.plan_report.specs.Units.{units}
use Rattle.policy_graph.specs.declared.edge.Edge.{Edge}
use Rattle.policy_graph.specs.declared.graph.PolicyGraph.{PolicyGraph}
use Rattle.policy_graph.specs.declared.node.Node.{Node}
use Rattle.policy_graph.specs.declared.node_kind.NodeKind.{NodeKind}
use Rattle.policy_graph.specs.declared.node_kind.NodeKind.TheVariants.{Goal, GivesUp, Acts}

-- ---- labels

abbrev pub escaped_byte : ℕ → List ℕ
escaped_byte b = cond (nat_eq b 34 || nat_eq b 92) (92 ∷ b ∷ []) (b ∷ [])

abbrev pub escaped : List ℕ → List ℕ
escaped text = flat_map escaped_byte text

abbrev pub atom_text : List (List ℕ) → ℕ → List ℕ
atom_text atoms q = elim (slice_get atoms q) [ Some text ↦ escaped text ++ codes "\\n" | None ↦ [] ]

abbrev pub atom_line : List (List ℕ) → State → ℕ → List ℕ
atom_line atoms s q = cond (has_bit s q) (atom_text atoms q) []

abbrev pub atoms_text : List (List ℕ) → State → List ℕ
atoms_text atoms s = flat_map (atom_line atoms s) (range_with_len 0 (length atoms))

abbrev pub interval_text : ℕ → ℕ → List ℕ
interval_text lower upper = codes "[" ++ units lower ++ codes ", " ++ units upper ++ codes "]"

-- ---- nodes

abbrev pub kind_style : NodeKind → List ℕ
kind_style Goal = codes ", peripheries=2"
kind_style GivesUp = codes ", style=dashed"
kind_style (Acts k) = []

abbrev pub node_name : ℕ → List ℕ
node_name i = codes "n" ++ decimal i

abbrev pub node_text : Ground → ℕ → Node → List ℕ
node_text g i node =
    node_name i ++ codes " [label=\"" ++ atoms_text g.atoms node.state
    ++ interval_text node.lower node.upper ++ codes "\"" ++ kind_style node.kind ++ codes "];\n"

abbrev pub node_line : Ground → List Node → ℕ → List ℕ
node_line g nodes i = elim (slice_get nodes i) [ Some node ↦ node_text g i node | None ↦ [] ]

-- ---- edges

abbrev pub target_text : Option ℕ → List ℕ
target_text None = codes "more"
target_text (Some i) = node_name i

abbrev pub drawn_place : ℕ → ℕ → Option ℕ
drawn_place count i = cond (nat_lt i count) (Some i) None

abbrev pub start_text : ℕ → ℕ → ℕ → Start → List ℕ
start_text den count i x =
    codes "start -> " ++ target_text (drawn_place count i)
    ++ codes " [label=\"" ++ fraction_text x.weight den ++ codes "\"];\n"

abbrev pub start_line : Ground → ℕ → ℕ → List ℕ
start_line g count i =
    elim (slice_get g.starts i) [ Some x ↦ start_text g.start_den count i x | None ↦ [] ]

abbrev pub edge_label : Ground → Edge → List ℕ
edge_label g e =
    escaped (action_text g.actions e.action) ++ codes "\\n"
    ++ fraction_text e.weight e.den ++ codes " " ++ units e.cost

abbrev pub edge_line : Ground → Edge → List ℕ
edge_line g e =
    node_name e.from ++ codes " -> " ++ target_text e.to
    ++ codes " [label=\"" ++ edge_label g e ++ codes "\"];\n"

abbrev pub leads_on : Edge → Bool
leads_on e = not (is_some e.to)

abbrev pub is_cut : Ground → PolicyGraph → Bool
is_cut g graph = nat_lt (length graph.nodes) (length g.starts) || list_any leads_on graph.edges

abbrev pub more_line : Ground → PolicyGraph → List ℕ
more_line g graph = cond (is_cut g graph) (codes "more [label=\"...\", shape=plaintext];\n") []

-- ---- the graph

abbrev pub first_lines : List ℕ
first_lines =
    codes "digraph policy {\nrankdir=LR;\nnode [shape=box, fontname=\"Helvetica\"];\n"
    ++ codes "edge [fontname=\"Helvetica\"];\nstart [shape=point];\n"

abbrev pub graph_text : Ground → PolicyGraph → List ℕ
graph_text g graph =
    first_lines
    ++ flat_map (node_line g graph.nodes) (range_with_len 0 (length graph.nodes))
    ++ more_line g graph
    ++ flat_map (start_line g (length graph.nodes)) (range_with_len 0 (length g.starts))
    ++ flat_map (edge_line g) graph.edges
    ++ codes "}\n"

-- ---- what is said of it

abbrev pub last_line : Bool → List ℕ
last_line cut = cond cut (codes "\ncut\n") (codes "\nall\n")

abbrev pub graph_report : Ground → PolicyGraph → List ℕ
graph_report g graph =
    codes "drawn\nstates " ++ decimal (length graph.nodes) ++ codes "\nedges "
    ++ decimal (length graph.edges) ++ last_line (is_cut g graph)
