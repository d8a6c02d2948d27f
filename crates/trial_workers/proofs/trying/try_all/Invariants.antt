-- The trials before this number are made.
use Rattle.trial_workers.proofs.Running.{Trying}
use Rattle.trial_workers.proofs.trying.try_all.Given as goal

abbrev pub invariant-loop-number : goal.invariant-loop-number
invariant-loop-number g l = Trying l.words l.effort l.initial.worker l.worker l.scratch l.number
