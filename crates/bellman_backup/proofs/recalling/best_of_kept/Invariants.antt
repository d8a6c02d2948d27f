-- The actions so far were read, and the best of them is known.
use Rattle.bellman_backup.proofs.KeptReads.{KeptChosen}
use Rattle.bellman_backup.proofs.recalling.best_of_kept.Given as goal

abbrev pub invariant-loop-index : goal.invariant-loop-index
invariant-loop-index l = KeptChosen l.words l.initial.pass l.pass l.own l.kept l.row l.chosen l.best l.index
