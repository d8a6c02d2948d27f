-- The choices so far were read.
use Rattle.bellman_backup.proofs.Leasts.{SummedSoFar}
use Rattle.bellman_backup.proofs.unasked.sum_kept.Given as goal

abbrev pub invariant-loop-share : goal.invariant-loop-share
invariant-loop-share l = SummedSoFar l.words l.initial.pass l.pass l.own l.ids l.action l.kept l.sums l.place l.share-index
