-- The next states are those of the choices of the action that is taken.
use Rattle.std.proofs.Common.{◌≡◌, ◌∙◌, Some, sym, ap, subst, rules}
use Rattle.std.specs.Prelude.{OnOk}
use Rattle.std.specs.List.{slice_get}
use Rattle.ground_model.specs.Ground.{Ground}
use Rattle.ground_model.specs.Packed.{same_state}
use Rattle.policy_graph.specs.Claims.{action_at}
use Rattle.policy_graph.specs.Search.{noted_all}
use Rattle.policy_graph.proofs.Followed.{nexts_some}
use Rattle.policy_graph.proofs.Joining.{looked_up}
use Rattle.policy_graph.proofs.searching.expand.Goals as goal

pub returns : goal.returns
returns c =
    let g = c.args.claims.now.problem in let q = c.args.claims.now.certificate in let s = c.args.state.now in
    let some : action_at g q s ≡ Some c.in-Some.code = search rules in
    let found = c.in-Some-get.ensures.lookup in
    let at : slice_get g.actions c.in-Some.code ≡ Some c.in-Some-get.action.now
    = looked_up c.actions.result.now g.actions c.from.result c.in-Some.code c.in-Some-get.action.now
    (c.actions.ensures.value ∙ ap (λ (h : Ground). h.actions) c.problem-problem.ensures) c.from.ensures found.3.0 found.1 in
    subst (λ l. OnOk c.note_nexts.result (c.note_nexts.new.states.keys ≡ noted_all same_state c.args.most c.args.states.now.keys l))
    (sym (nexts_some g q s c.in-Some.code c.in-Some-get.action.now some at)) c.note_nexts.ensures
