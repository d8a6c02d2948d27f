-- The edges of a node that acts are the choices of its action.
use Rattle.std.proofs.Common.{◌≡◌, ◌≤◌, ◌∙◌, ◌++◌, Option, None, Some, length, map, sym, ap, subst, append-nil, rules}
use Rattle.std.specs.Prelude.{OnOk}
use Rattle.std.specs.List.{slice_get}
use Rattle.std.proofs.lemmas.Option.{slice_get_past}
use Rattle.ground_model.specs.declared.action.GroundAction.{GroundAction}
use Rattle.policy_graph.specs.Graph.{edge_of, action_edges, kind_edges}
use Rattle.policy_graph.proofs.Joining.{looked_up}
use Rattle.policy_graph.proofs.edges.push_node.Goals as goal

pub returns-in_default-get : goal.returns-in_default-get
returns-in_default-get c =
    let g = c.args.problem.now in let keys = c.args.states.now.keys in let from = c.args.from in let s = c.args.node.now.state in
    let old = c.args.edges.now.items in let code = c.in-Acts.code in
    let past : length c.actions.result.now ≤ code = search rules in
    let none : slice_get g.actions code ≡ None
    = ap (λ l. slice_get l code) (sym c.actions.ensures.value) ∙ slice_get_past c.actions.result.now code past in
    sym (ap (λ k. old ++ kind_edges g keys from s k) c.in-Acts.is
    ∙ ap (λ (o : Option GroundAction). old ++ action_edges g keys from code s o) none ∙ append-nil old)

pub returns : goal.returns
returns c =
    let g = c.args.problem.now in let keys = c.args.states.now.keys in let from = c.args.from in let s = c.args.node.now.state in
    let old = c.args.edges.now.items in let code = c.in-Acts.code in let action = c.in-Some.action.now in
    let found = c.in-Some.ensures.lookup in
    let at : slice_get g.actions code ≡ Some action
    = looked_up c.actions.result.now g.actions c.from.result code action c.actions.ensures.value c.from.ensures found.3.0 found.1 in
    let edges : kind_edges g keys from s c.args.node.now.kind ≡ map (edge_of keys from code action.den s) action.choices
    = ap (kind_edges g keys from s) c.in-Acts.is ∙ ap (action_edges g keys from code s) at in
    subst (λ l. OnOk c.push_choices.result (c.push_choices.new.edges.items ≡ old ++ l)) (sym edges) c.push_choices.ensures
