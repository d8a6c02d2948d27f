-- The choices so far were read.
use Rattle.bellman_backup.proofs.KeptReads.{KeptSoFar}
use Rattle.bellman_backup.proofs.recalling.read_kept.Given as goal

abbrev pub invariant-loop-share : goal.invariant-loop-share
invariant-loop-share l = KeptSoFar l.words l.initial.pass l.pass l.own l.ids l.action l.kept l.steps l.sums l.place l.share-index
