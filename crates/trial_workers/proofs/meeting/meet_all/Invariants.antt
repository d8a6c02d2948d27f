-- The news have what the workers before this one have noted.
use Rattle.trial_workers.proofs.Hearing.{Gathering}
use Rattle.trial_workers.proofs.meeting.meet_all.Given as goal

abbrev pub invariant-loop-index : goal.invariant-loop-index
invariant-loop-index l = Gathering l.words l.fn.workers l.workers l.index l.news
