-- The actions so far were read, and the least numbers over them are known.
use Rattle.bellman_backup.proofs.Leasts.{LeastSoFar}
use Rattle.bellman_backup.proofs.unasked.least_of_kept.Given as goal

abbrev pub invariant-loop-index : goal.invariant-loop-index
invariant-loop-index l = LeastSoFar l.words l.initial.pass l.pass l.own l.kept l.row l.fn.first l.least l.index
