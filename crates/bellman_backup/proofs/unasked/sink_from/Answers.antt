use Rattle.bellman_backup.proofs.Keeping.{keeps_all, keeps_sunk}
use Rattle.bellman_backup.proofs.unasked.sink_from.Goals as goal

pub returns-then-not-is_below-clause-keeps : goal.returns-then-not-is_below-clause-keeps
returns-then-not-is_below-clause-keeps c = keeps_all c.args.words.now c.args.pass.now c.requires.here

pub returns-clause-keeps : goal.returns-clause-keeps
returns-clause-keeps c = keeps_sunk c.args.words.now c.args.pass.now c.sink_upper.new.pass c.args.id _ c.requires.here c.sink_upper.ensures.seen
