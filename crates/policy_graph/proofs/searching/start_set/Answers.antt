-- One start more, which is new, since starts differ.
use Rattle.std.proofs.Common.{◌≡◌, ◌<◌, ◌∙◌, List, length, get_or, ap, subst, arith, rules}
use Rattle.ground_model.specs.declared.start.Start.{Start}
use Rattle.ground_model.specs.Steps.{ground_starts}
use Rattle.policy_graph.specs.Search.{start_states}
use Rattle.policy_graph.proofs.Followed.{starts_apart, starts_long, start_there}
use Rattle.policy_graph.proofs.Rows.{put_state}
use Rattle.policy_graph.proofs.searching.start_set.Goals as goal

pub loop-place-preserved : goal.loop-place-preserved
loop-place-preserved c =
    let g = c.args.problem.now in let place = c.loop-place.place in let item = c.index-starts-place.result in
    let below : place < length c.starts-starts.result.now = search rules in
    let within : place < length g.starts = subst (λ (l : List Start). place < length l) c.starts-starts.ensures.value below in
    let clone : c.in_ok-state.state ≡ item.state = search rules in
    let read = c.index-starts-place.is ∙ ap (λ (l : List Start). get_or l place item) c.starts-starts.ensures.value in
    c.in-Ok.ensures.keys
    ∙ put_state (start_states (ground_starts g)) (starts_apart g c.starts-starts.ensures.valid) c.loop-place.states.keys place
    c.in_ok-state.state (omega (arith, within, starts_long g)) c.loop-place.invariant (clone ∙ start_there g place item within read)
