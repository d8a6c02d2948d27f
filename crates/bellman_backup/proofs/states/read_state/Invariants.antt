-- The words so far were read, and noted.
use Rattle.std.proofs.Common.{◌≡◌, ◌<◌, length}
use Rattle.bound_core.specs.Core.{width}
use Rattle.word_table.specs.rule.Told.{HasOneState}
use Rattle.bellman_backup.specs.Backups.{Keeps}
use Rattle.bellman_backup.proofs.WordsRead.{AreNoted}
use Rattle.bellman_backup.proofs.states.read_state.Given as goal

abbrev pub invariant-loop-place : goal.invariant-loop-place
invariant-loop-place l = record {
  keeps : Keeps l.words l.initial.pass l.pass;
  loads : l.pass.view.loads ≡ l.initial.pass.view.loads;
  spare : l.pass.view.spare ≡ l.initial.pass.view.spare;
  long : length l.into ≡ width l.words.problem;
  noted : AreNoted l.pass.view.words l.id l.into l.place;
  one : 0 < l.place → HasOneState l.pass.view;
}
