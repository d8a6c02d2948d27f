-- The ids from this one on are backed up.
use Rattle.trial_workers.proofs.Falling.{Sweeping}
use Rattle.trial_workers.proofs.sweeping.sweep.Given as goal

abbrev pub invariant-loop-id : goal.invariant-loop-id
invariant-loop-id l = Sweeping l.words l.initial.pass l.pass l.scratch l.id l.past

abbrev pub decreases-loop-id : goal.decreases-loop-id
decreases-loop-id l = l.id
