-- The workers before this one are prepared.
use Rattle.std.proofs.Common.{get_or}
use Rattle.trial_workers.proofs.Hearing.{Preparing}
use Rattle.trial_workers.proofs.meeting.prepare.Given as goal

abbrev pub invariant-loop-index : goal.invariant-loop-index
invariant-loop-index l = (e : _) → Preparing l.words l.division (get_or l.fn.workers 0 e).pass.view l.fn.workers l.workers l.index l.news
