-- The choices so far were read.
use Rattle.std.proofs.Common.{◌≡◌, length, take}
use Rattle.bellman_backup.proofs.Stepping.{ReadSoFar}
use Rattle.bellman_backup.proofs.outcomes.read_action.Given as goal

abbrev pub invariant-loop-choice : goal.invariant-loop-choice
invariant-loop-choice l = record {
  far : ReadSoFar l.words l.initial.pass l.pass l.state (take l.choice-index l.action.choices) l.steps l.sums l.choice-index;
  fits : length l.next ≡ length l.state;
}
