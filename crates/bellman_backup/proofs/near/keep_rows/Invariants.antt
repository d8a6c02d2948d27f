-- The rows so far are those of their ids.
use Rattle.std.proofs.Common.{◌≡◌}
use Rattle.bellman_backup.specs.Scratches.{AreBuffers}
use Rattle.bellman_backup.specs.Backups.{Keeps}
use Rattle.bellman_backup.specs.Kept.{KeepsStates}
use Rattle.bellman_backup.proofs.near.keep_rows.Given as goal

abbrev pub invariant-loop-id : goal.invariant-loop-id
invariant-loop-id l = record {
  keeps : Keeps l.words l.initial.pass l.pass;
  spare : l.pass.view.spare ≡ l.initial.pass.view.spare;
  buffers : AreBuffers l.index l.codes l.state l.next;
  kept : KeepsStates l.words.problem l.pass.view l.kept;
}
