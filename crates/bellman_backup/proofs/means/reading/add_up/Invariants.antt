-- The starts so far are added up.
use Rattle.std.proofs.Common.{take}
use Rattle.bellman_backup.specs.Backups.{Keeps}
use Rattle.bellman_backup.specs.means.Sums.{AreSums}
use Rattle.bellman_backup.proofs.means.reading.add_up.Given as goal

abbrev pub invariant-loop-id : goal.invariant-loop-id
invariant-loop-id l = record {
  keeps : Keeps l.words l.initial.pass l.pass;
  sums : AreSums l.words.problem l.initial.pass.view l.pass.view (take l.id l.starts) l.sums;
}
