-- The choices so far are kept.
use Rattle.std.proofs.Common.{◌≡◌, length}
use Rattle.bellman_backup.specs.declared.lookup.Lookup.TheVariants.{Find}
use Rattle.bellman_backup.proofs.TransitionsKept.{ChoicesKept}
use Rattle.bellman_backup.proofs.expanding.keep_action.Given as goal

abbrev pub invariant-loop-choice : goal.invariant-loop-choice
invariant-loop-choice l = record {
  so : ChoicesKept l.words l.initial.pass l.pass l.state l.choices l.initial.kept l.kept l.choice-index l.cost;
  spare : l.lookup ≡ Find → l.pass.view.spare ≡ l.initial.pass.view.spare;
  fits : length l.next ≡ length l.state;
}
