-- A goal's word is sunk.
use Rattle.state_interner.proofs.Going.{upper_goes}
use Rattle.state_interner.proofs.goals.sink_goal.Goals as goal

pub returns-then-is_goal-clause-goes_on : goal.returns-then-is_goal-clause-goes_on
returns-then-is_goal-clause-goes_on c =
    upper_goes c.args.words.now c.args.pass.now c.sink_upper.new.pass c.requires.here c.args.id c.pack.result c.sink_upper.ensures.seen
