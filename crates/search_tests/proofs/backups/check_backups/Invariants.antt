-- Pass and scratch are of the words, and the pass may claim an id.
use Rattle.std.proofs.Common.{◌<◌}
use Rattle.word_table.specs.Seen.{IsOf}
use Rattle.bellman_backup.specs.Scratches.{IsScratchOf}
use Rattle.search_tests.proofs.backups.check_backups.Given as goal

abbrev pub invariant-loop-row : goal.invariant-loop-row
invariant-loop-row g l = record {
  here : IsOf l.words l.pass;
  right : 0 < l.pass.view.rights;
  scratch : IsScratchOf l.words l.scratch;
}
