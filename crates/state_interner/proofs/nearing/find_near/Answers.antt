-- The hints are filled and tried; then the run is walked.
use Rattle.std.proofs.Common.{◌∙◌}
use Rattle.state_interner.proofs.Going.{goes_then}
use Rattle.state_interner.proofs.Turns.{none_since}
use Rattle.state_interner.proofs.nearing.find_near.Goals as goal

pub find-requires-clause-state : goal.find-requires-clause-state
find-requires-clause-state c = c.requires.state ∙ c.find_noted.ensures.table.width

pub returns-in-Some-clause-goes_on : goal.returns-in-Some-clause-goes_on
returns-in-Some-clause-goes_on c =
    let b = c.args.words.now in
    goes_then b c.args.pass.now c.fill.new.pass c.sink_goal.new.pass c.fill.ensures.goes_on
    (goes_then b c.fill.new.pass c.find_noted.new.pass c.sink_goal.new.pass c.find_noted.ensures.goes_on c.sink_goal.ensures.goes_on)

pub returns-clause-goes_on : goal.returns-clause-goes_on
returns-clause-goes_on c =
    let b = c.args.words.now in
    goes_then b c.args.pass.now c.fill.new.pass c.find.new.pass c.fill.ensures.goes_on
    (goes_then b c.fill.new.pass c.find_noted.new.pass c.find.new.pass c.find_noted.ensures.goes_on c.find.ensures.goes_on)

pub returns-clause-none : goal.returns-clause-none
returns-clause-none c =
    let b = c.args.words.now in
    let goes = goes_then b c.args.pass.now c.fill.new.pass c.find_noted.new.pass c.fill.ensures.goes_on c.find_noted.ensures.goes_on in
    none_since b c.args.pass.now c.find_noted.new.pass c.args.state.now c.find.result c.find.new.pass.view goes c.find.ensures.none
