-- A walk over the run of the state.
use Rattle.std.proofs.Common.{◌∙◌, arith}
use Rattle.state_interner.proofs.Going.{goes_then}
use Rattle.state_interner.proofs.Turns.{turn_is, walk_is_clear, walk_goes_on, walk_ends, missing_since}
use Rattle.state_interner.proofs.finding.find.Goals as goal

pub look-requires-clause-clear : goal.look-requires-clause-clear
look-requires-clause-clear c =
    walk_is_clear c.args.words.now c.args.pass.now c.loop-turn.pass c.args.state.now c.loop-turn.turn _ c.loop-turn.invariant.0
    (turn_is c.args.words.now.layout c.args.state.now c.hash.result c.from.result c.buckets-buckets.result c.loop-turn.turn c.hash.ensures
    (c.from.ensures ∙ c.buckets-buckets.ensures.value) c.buckets-buckets.ensures.value)

pub returns-in-Own-clause-goes_on : goal.returns-in-Own-clause-goes_on
returns-in-Own-clause-goes_on c =
    let b = c.args.words.now in
    goes_then b c.args.pass.now c.loop-turn.pass c.sink_goal.new.pass c.loop-turn.invariant.0.goes
    (goes_then b c.loop-turn.pass c.look.new.pass c.sink_goal.new.pass c.look.ensures.goes_on c.sink_goal.ensures.goes_on)

pub returns-in-Free-clause-goes_on : goal.returns-in-Free-clause-goes_on
returns-in-Free-clause-goes_on c =
    goes_then c.args.words.now c.args.pass.now c.loop-turn.pass c.look.new.pass c.loop-turn.invariant.0.goes c.look.ensures.goes_on

pub returns-in-Free-clause-none : goal.returns-in-Free-clause-none
returns-in-Free-clause-none c =
    missing_since c.args.words.now c.args.pass.now c.loop-turn.pass c.args.state.now c.look.new.pass.view c.loop-turn.invariant.0.goes c.in-Free.ensures.told

pub loop-turn-preserved : goal.loop-turn-preserved
loop-turn-preserved c =
    let told = c.in-Other.ensures.told in (
      walk_goes_on c.args.words.now c.args.pass.now c.loop-turn.pass c.look.new.pass c.args.state.now c.loop-turn.turn _ c.loop-turn.invariant.0
          (turn_is c.args.words.now.layout c.args.state.now c.hash.result c.from.result c.buckets-buckets.result c.loop-turn.turn c.hash.ensures
          (c.from.ensures ∙ c.buckets-buckets.ensures.value) c.buckets-buckets.ensures.value)
          c.look.ensures.goes_on told.0 told.1,
      c.look.ensures.spare ∙ c.loop-turn.invariant.1,
    )

pub unreachable-requires : goal.unreachable-requires
unreachable-requires c =
    let past = c.loop-turn-test.false in
    let buckets = c.buckets-buckets.ensures.value in
    let layout = c.buckets-buckets.ensures.table.layout in
    let free = layout.buckets.1 in
    let some_ids = layout.some_ids in
    walk_ends c.args.words.now c.args.pass.now c.loop-turn.pass c.args.state.now c.loop-turn.turn c.loop-turn.invariant.0 (omega arith) (omega arith)
