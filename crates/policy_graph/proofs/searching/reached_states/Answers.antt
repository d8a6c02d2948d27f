-- The starts are found first, and then the next states of one state more.
use Rattle.std.proofs.Common.{◌≡◌, ◌+◌, ◌<◌, ◌≤◌, ◌∙◌, Some, length, get_or, sym, ap, subst, arith, rules}
use Rattle.std.specs.List.{slice_get}
use Rattle.certificate_check.specs.Laws.{act_in}
use Rattle.certificate_check.proofs.Sound.{states_exact}
use Rattle.ground_model.specs.Packed.{same_state}
use Rattle.ground_model.specs.Ground.{Ground}
use Rattle.ground_model.specs.Invariant.{IsGroundProblem}
use Rattle.ground_model.specs.Steps.{ground_process, ground_starts}
use Rattle.policy_graph.specs.Search.{first_states, IsSearched}
use Rattle.policy_graph.proofs.BreadthFirst.{next_found, starts_found}
use Rattle.policy_graph.proofs.Followed.{followed_likely, starts_apart, starts_likely}
use Rattle.policy_graph.proofs.Joining.{stands}
use Rattle.policy_graph.proofs.searching.reached_states.Goals as goal

pub loop-done-init : goal.loop-done-init
loop-done-init c =
    let g = c.args.claims.now.problem in let q = c.args.claims.now.certificate in
    let valid : IsGroundProblem g = subst IsGroundProblem c.problem.ensures c.in_ok-states.ensures.valid in
    let states = c.in_ok-states.ensures.starts ∙ ap (λ (h : Ground). first_states (ground_starts h) c.args.most) c.problem.ensures in (
      subst (λ l. IsSearched (ground_process g) (act_in g q) (ground_starts g) c.args.most l 0) (sym states)
          (starts_found (ground_process g) (act_in g q) (ground_starts g) c.args.most (starts_apart g valid) (starts_likely g valid)),
      omega arith,
    )

pub loop-done-preserved : goal.loop-done-preserved
loop-done-preserved c =
    let g = c.args.claims.now.problem in let q = c.args.claims.now.certificate in
    let valid : IsGroundProblem g = subst IsGroundProblem c.problem.ensures c.in_ok-states.ensures.valid in
    let keys = c.loop-done.states.keys in let done = c.loop-done.done in let s = c.in_ok-state.state in
    let item = c.index-as_slice-done.result in
    let within : done < length keys = omega (arith, c.loop-done-test.true) in
    let clone : s ≡ item = search rules in
    let at : slice_get keys done ≡ Some s
    = stands keys done item within (c.index-as_slice-done.is ∙ ap (λ l. get_or l done item) c.as_slice.ensures.keys) ∙ ap Some (sym clone) in
    subst (λ l. IsSearched (ground_process g) (act_in g q) (ground_starts g) c.args.most l (done + 1) × (done + 1 ≤ length l))
    (sym c.in_ok-expand.ensures)
    (next_found (ground_process g) (act_in g q) (ground_starts g) c.args.most same_state states_exact done s keys
    c.loop-done.invariant.0 at (followed_likely g q s valid))

pub loop-done-smaller : goal.loop-done-smaller
loop-done-smaller c = omega (arith, c.loop-done.invariant.0.few, c.loop-done-test.true)

pub returns : goal.returns
returns c =
    let g = c.args.claims.now.problem in let q = c.args.claims.now.certificate in
    let keys = c.loop-done.states.keys in
    let all : c.loop-done.done ≡ length keys = omega (arith, c.loop-done.invariant.1, c.loop-done-test.false) in
    subst (IsSearched (ground_process g) (act_in g q) (ground_starts g) c.args.most keys) all c.loop-done.invariant.0
