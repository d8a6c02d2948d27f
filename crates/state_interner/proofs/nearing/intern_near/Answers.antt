-- The hints are filled and tried; then the run is walked.
use Rattle.std.proofs.Common.{ap, ◌∙◌}
use Rattle.word_table.specs.declared.layout.Layout.{Layout}
use Rattle.state_interner.proofs.Going.{goes_then}
use Rattle.state_interner.proofs.Turns.{reached_later, reached_is_wide}
use Rattle.state_interner.proofs.Claims.{tells_since}
use Rattle.state_interner.proofs.nearing.intern_near.Goals as goal

pub find_noted-requires-clause-state : goal.find_noted-requires-clause-state
find_noted-requires-clause-state c =
    reached_is_wide c.args.pass.now.view c.args.state.now c.requires.reached ∙ ap (λ (l : Layout). l.width) c.requires.here.view.layout

pub returns-in-Some-clause-goes_on : goal.returns-in-Some-clause-goes_on
returns-in-Some-clause-goes_on c =
    let b = c.args.words.now in
    goes_then b c.args.pass.now c.fill.new.pass c.sink_goal.new.pass c.fill.ensures.goes_on
    (goes_then b c.fill.new.pass c.find_noted.new.pass c.sink_goal.new.pass c.find_noted.ensures.goes_on c.sink_goal.ensures.goes_on)

pub walk-found-requires-clause-reached : goal.walk-found-requires-clause-reached
walk-found-requires-clause-reached c =
    let b = c.args.words.now in
    let goes = goes_then b c.args.pass.now c.fill.new.pass c.find_noted.new.pass c.fill.ensures.goes_on c.find_noted.ensures.goes_on in
    reached_later c.args.pass.now.view c.find_noted.new.pass.view c.args.state.now goes.noted c.requires.reached

pub returns-in-Id-clause-goes_on : goal.returns-in-Id-clause-goes_on
returns-in-Id-clause-goes_on c =
    let b = c.args.words.now in
    goes_then b c.args.pass.now c.fill.new.pass c.walk-found.new.pass c.fill.ensures.goes_on
    (goes_then b c.fill.new.pass c.find_noted.new.pass c.walk-found.new.pass c.find_noted.ensures.goes_on c.walk-found.ensures.goes_on)

pub returns-in_default-found-clause-goes_on : goal.returns-in_default-found-clause-goes_on
returns-in_default-found-clause-goes_on c =
    let b = c.args.words.now in
    goes_then b c.args.pass.now c.fill.new.pass c.walk-found.new.pass c.fill.ensures.goes_on
    (goes_then b c.fill.new.pass c.find_noted.new.pass c.walk-found.new.pass c.find_noted.ensures.goes_on c.walk-found.ensures.goes_on)

pub returns-in_default-found-clause-told : goal.returns-in_default-found-clause-told
returns-in_default-found-clause-told c =
    let b = c.args.words.now in
    let goes = goes_then b c.args.pass.now c.fill.new.pass c.find_noted.new.pass c.fill.ensures.goes_on c.find_noted.ensures.goes_on in
    tells_since b c.args.pass.now c.find_noted.new.pass c.args.state.now c.walk-found.result.0 c.walk-found.new.pass.view goes c.walk-found.ensures.told
