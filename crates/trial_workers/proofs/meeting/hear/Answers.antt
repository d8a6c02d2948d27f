use Rattle.trial_workers.proofs.Passes.{meets}
use Rattle.trial_workers.proofs.meeting.hear.Goals as goal

pub returns-clause-stays : goal.returns-clause-stays
returns-clause-stays c = (meets c.args.words.now c.args.pass.now c.args.other.now c.meet.new.pass c.requires.here.0 c.requires.here.1 c.meet.ensures.pass).0

pub returns-clause-heard : goal.returns-clause-heard
returns-clause-heard c = (meets c.args.words.now c.args.pass.now c.args.other.now c.meet.new.pass c.requires.here.0 c.requires.here.1 c.meet.ensures.pass).1
