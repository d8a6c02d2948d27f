-- A walk over the run of the state.
use Rattle.std.proofs.Common.{ap, ◌∙◌, arith}
use Rattle.word_table.specs.declared.layout.Layout.{Layout}
use Rattle.state_interner.proofs.Going.{goes_then}
use Rattle.state_interner.proofs.Turns.{turn_is, reached_later, reached_is_wide, walk_is_clear, walk_goes_on, walk_ends}
use Rattle.state_interner.proofs.Claims.{full_since}
use Rattle.state_interner.proofs.interning.walk.Goals as goal

pub take_turn-requires-clause-state : goal.take_turn-requires-clause-state
take_turn-requires-clause-state c =
    reached_is_wide c.args.pass.now.view c.args.state.now c.requires.reached ∙ ap (λ (l : Layout). l.width) c.requires.here.view.layout

pub take_turn-requires-clause-clear : goal.take_turn-requires-clause-clear
take_turn-requires-clause-clear c =
    walk_is_clear c.args.words.now c.args.pass.now c.loop-turn.pass c.args.state.now c.loop-turn.turn _ c.loop-turn.invariant
    (turn_is c.args.words.now.layout c.args.state.now c.hash.result c.from.result c.buckets-buckets.result c.loop-turn.turn c.hash.ensures
    (c.from.ensures ∙ c.buckets-buckets.ensures.value) c.buckets-buckets.ensures.value)

pub take_turn-requires-clause-reached : goal.take_turn-requires-clause-reached
take_turn-requires-clause-reached c =
    reached_later c.args.pass.now.view c.loop-turn.pass.view c.args.state.now c.loop-turn.invariant.goes.noted c.requires.reached

pub returns-in-Own-clause-goes_on : goal.returns-in-Own-clause-goes_on
returns-in-Own-clause-goes_on c =
    let b = c.args.words.now in
    goes_then b c.args.pass.now c.loop-turn.pass c.sink_goal.new.pass c.loop-turn.invariant.goes
    (goes_then b c.loop-turn.pass c.take_turn.new.pass c.sink_goal.new.pass c.take_turn.ensures.goes_on c.sink_goal.ensures.goes_on)

pub returns-in-Free-clause-goes_on : goal.returns-in-Free-clause-goes_on
returns-in-Free-clause-goes_on c =
    goes_then c.args.words.now c.args.pass.now c.loop-turn.pass c.take_turn.new.pass c.loop-turn.invariant.goes c.take_turn.ensures.goes_on

pub returns-in-Free-clause-told : goal.returns-in-Free-clause-told
returns-in-Free-clause-told c =
    full_since c.args.words.now c.args.pass.now c.loop-turn.pass c.args.state.now c.take_turn.new.pass.view c.loop-turn.invariant.goes c.in-Free.ensures.told

pub loop-turn-preserved : goal.loop-turn-preserved
loop-turn-preserved c =
    let told = c.in-Other.ensures.told in
    walk_goes_on c.args.words.now c.args.pass.now c.loop-turn.pass c.take_turn.new.pass c.args.state.now c.loop-turn.turn _ c.loop-turn.invariant
    (turn_is c.args.words.now.layout c.args.state.now c.hash.result c.from.result c.buckets-buckets.result c.loop-turn.turn c.hash.ensures
    (c.from.ensures ∙ c.buckets-buckets.ensures.value) c.buckets-buckets.ensures.value)
    c.take_turn.ensures.goes_on told.0 told.1

pub unreachable-requires : goal.unreachable-requires
unreachable-requires c =
    let past = c.loop-turn-test.false in
    let buckets = c.buckets-buckets.ensures.value in
    let layout = c.buckets-buckets.ensures.table.layout in
    let free = layout.buckets.1 in
    let some_ids = layout.some_ids in
    walk_ends c.args.words.now c.args.pass.now c.loop-turn.pass c.args.state.now c.loop-turn.turn c.loop-turn.invariant (omega arith) (omega arith)
