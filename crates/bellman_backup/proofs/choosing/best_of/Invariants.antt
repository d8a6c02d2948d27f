-- The actions so far were read, and the best of them is known.
use Rattle.std.proofs.Common.{◌≡◌, length, take}
use Rattle.bellman_backup.specs.Backups.{Keeps}
use Rattle.bellman_backup.specs.Choosing.{HasChosen}
use Rattle.bellman_backup.proofs.choosing.best_of.Given as goal

abbrev pub invariant-loop-code : goal.invariant-loop-code
invariant-loop-code l = record {
  keeps : Keeps l.words l.initial.pass l.pass;
  fits : length l.next ≡ length l.state;
  chosen : HasChosen l.words.problem l.initial.pass.view l.pass.view l.state (take l.code-index l.codes) l.chosen l.best;
}
